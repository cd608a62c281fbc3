-- A run on a byte medium of loads: what its memory then holds, and what is answered. Assumes nothing.
use Rattle.std.specs.Prelude.{ℕ, ◌+◌, ◌-◌, ◌*◌, List, [], ◌∷◌, replicate, Ok, Err, slice_index, slice_set}
use Rattle.line.specs.Answers.{Answer}
use Rattle.line.specs.Loads.{load_of, load_bytes}
use Rattle.line.specs.declared.answer.Accepted.TheVariants.{Line, Toll}
use Rattle.line.specs.declared.load.Load.{Load}
use Rattle.medium.specs.Array.{Array, Reply, line, written, denied, denied_by, unless_denied}
use Rattle.medium.specs.declared.call.Call.{Call}
use Rattle.medium.specs.declared.call.Call.TheVariants.{Read, Write}
use Rattle.media.specs.Bytes.{byte_array, laid}
use Rattle.runner.specs.declared.totals.Totals.{Totals}

-- bytes, and the count of each line's writes
pub record Memory : Type 0 where
  pub bytes : List ℕ
  pub counts : List ℕ

-- memory of bytes with n counts, of no write yet
abbrev pub new_memory : List ℕ → ℕ → Memory
new_memory bs n = record { bytes = bs; counts = replicate n 0 }

-- the array that such memory means
abbrev pub array_in : Memory → ℕ → Array Load
array_in m life = byte_array load_of 16 m.bytes m.counts life

-- the memory after a call that is accepted: a write alters that line's bytes and that line's count
abbrev pub memory_accepted : Memory → Call Load → Memory
memory_accepted m (Read i) = m
memory_accepted m (Write i v) =
    record { bytes = laid m.bytes (i * 16) (load_bytes v); counts = slice_set m.counts i (slice_index m.counts i + 1) }

-- after any call: a denial alters nothing
unfoldable pub memory_next : Memory → ℕ → Call Load → Memory
memory_next m life c = unless_denied (denied_by (array_in m life) c) (memory_accepted m c) m

-- after calls, in their order
unfoldable pub memory_after : Memory → ℕ → List (Call Load) → Memory
memory_after m life [] = m
memory_after m life (c ∷ cs) = memory_after (memory_next m life c) life cs

-- what a byte medium answers where the flat array replies so: every toll is 1
abbrev pub byte_answer : Reply Load → Answer Load
byte_answer (line l) = Ok (Line l)
byte_answer written = Ok (Toll 1)
byte_answer (denied d) = Err d

-- the totals of that many requests on a byte medium that then means that array: its wear is what it has taken, and nothing was copied
abbrev pub byte_totals : ℕ → Array Load → Totals
byte_totals n a = record { requests = n; taken = a.taken; left = a.life - a.taken; copies = 0; wear = a.taken }
