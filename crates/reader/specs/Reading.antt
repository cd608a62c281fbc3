-- The reader's questions, in the order in which they are asked, and what it reads. Assumes nothing.
use Rattle.std.specs.Prelude.{◌≡◌, ℕ, zero, suc, ◌+◌, ◌-◌, cond, not, ◌||◌, List, [], ◌∷◌, ◌++◌, map, length, take, drop, Some, None, Ok, Err, Option, Result, ◌==◌, nat_le, nat_lt, slice_index}
use Rattle.line.specs.Words.{at16, at32}
use Rattle.line.specs.declared.denial.Denial.TheVariants.{FileLength, NoMark, BadDistances, UnknownPile, TooManyRequests, UnknownRequest, RequestCutShort, RequestsMiscounted}
use Rattle.runfile.specs.declared.fault.Fault.{Fault}
use Rattle.runfile.specs.declared.fault.Stage.TheVariants.{Trailer as in_trailer, Settings as in_settings, Request as in_request}
use Rattle.reader.specs.declared.reader.Run.{Run}
use Rattle.reader.specs.declared.reader.Trailer.{Trailer}
use Rattle.runfile.specs.declared.request.Request.{Request}
use Rattle.runfile.specs.declared.slot.Slot.{Slot}
use Rattle.runfile.specs.Asks.{Ask, read, write, Placed, placed_of}
use Rattle.runfile.specs.Faults.{faulted, or_then, or_fault}
use Rattle.runfile.specs.Layout.{settings_from, known_pile, marked_at}
use Rattle.runfile.specs.Slots.{slot_at}

-- the trailer: its three numbers, and the faults 8, 9 and 10
abbrev pub trailer_of : List ℕ → Trailer
trailer_of f = record {
  settings = at32 f (length f - 16);
  requests = at32 f (length f - 12);
  number = at32 f (length f - 8);
}

abbrev pub trailer_fault : List ℕ → Option Fault
trailer_fault f =
    or_then (faulted (nat_lt (length f) 36) FileLength 0 in_trailer)
    (or_then (faulted (nat_lt 65536 (length f)) FileLength 0 in_trailer)
    (or_then (faulted (not (marked_at f (length f - 4))) NoMark (length f - 4) in_trailer)
    (or_then (faulted (not (at32 f (length f - 16) == at32 f (length f - 12) + 20)) BadDistances (length f - 16) in_trailer)
    (faulted (nat_lt (length f - 16) (at32 f (length f - 16))) BadDistances (length f - 16) in_trailer))))

-- the settings: their place, and the fault 11
abbrev pub settings_at : List ℕ → ℕ
settings_at f = length f - 16 - at32 f (length f - 16)

abbrev pub settings_fault : List ℕ → Option Fault
settings_fault f =
    or_then (trailer_fault f) (faulted (not (known_pile (slice_index f (settings_at f)))) UnknownPile (settings_at f) in_settings)

-- the request at a place: how many bytes it has, what it asks, and the faults 13 and 14. Where the requests are used up, that is the
-- fault 15, at the trailer's number, 8 bytes past the end of the requests
abbrev pub size_at : List ℕ → ℕ → ℕ
size_at f at = cond (slice_index f at == 114) 3 19

abbrev pub ask_at : List ℕ → ℕ → Ask
ask_at f at =
    cond (slice_index f at == 114) (read (at16 f (at + 1))) (write (at16 f (at + 1)) (take 16 (drop (at + 3) f)))

abbrev pub request_fault : List ℕ → ℕ → ℕ → Option Fault
request_fault f at end =
    or_then (faulted (nat_le end at) RequestsMiscounted (end + 8) in_trailer)
    (or_then (faulted (not (slice_index f at == 114 || slice_index f at == 119)) UnknownRequest at in_request)
    (faulted (nat_lt end (at + size_at f at)) RequestCutShort at in_request))

-- the first fault of the next k requests, which are to end at `end`
abbrev pub requests_fault : List ℕ → ℕ → ℕ → ℕ → Option Fault
requests_fault f at end zero = faulted (not (at == end)) RequestsMiscounted (end + 8) in_trailer
requests_fault f at end (suc k) = or_then (request_fault f at end) (requests_fault f (at + size_at f at) end k)

-- k requests from a place on
abbrev pub requests_from : List ℕ → ℕ → ℕ → List Placed
requests_from f at zero = []
requests_from f at (suc k) = record { place = at; ask = ask_at f at } ∷ requests_from f (at + size_at f at) k

-- the whole: the fault 12 comes before the requests' own
abbrev pub run_fault : List ℕ → ℕ → Option Fault
run_fault f slots =
    or_then (settings_fault f)
    (or_then (faulted (nat_lt slots (at32 f (length f - 8))) TooManyRequests (length f - 8) in_trailer)
    (requests_fault f (settings_at f + 20) (length f - 16) (at32 f (length f - 8))))

abbrev pub run_of : List ℕ → Run
run_of f = record {
  settings = settings_from f (settings_at f);
  place = settings_at f;
  number = at32 f (length f - 8);
}

abbrev pub requests_of : List ℕ → List Placed
requests_of f = requests_from f (settings_at f + 20) (at32 f (length f - 8))

pub record Reading : Type 0 where
  pub run : Run
  pub requests : List Placed

-- what is read of a file, with this number of slots
abbrev pub reading : List ℕ → ℕ → Result Reading Fault
reading f slots = or_fault (run_fault f slots) (record { run = run_of f; requests = requests_of f })

-- the run in it, and the slots after it
abbrev pub run_in : Result Reading Fault → Result Run Fault
run_in (Ok x) = Ok x.run
run_in (Err e) = Err e

abbrev pub slots_after : Result Reading Fault → List Slot → List Slot
slots_after (Ok x) ss = map slot_at x.requests ++ drop x.run.number ss
slots_after (Err e) ss = ss

-- what is handed out at a place, and the place that is then reached
abbrev pub Handed : List ℕ → ℕ → ℕ → Result Request Fault → ℕ → Type 0
Handed f at end (Ok q) to =
    (request_fault f at end ≡ None) × (placed_of q ≡ record { place = at; ask = ask_at f at }) × (to ≡ at + size_at f at)
Handed f at end (Err e) to = (request_fault f at end ≡ Some e) × (to ≡ at)

-- where the requests of a file end: at its trailer, if its length is that of a run file
abbrev pub walk_end : List ℕ → ℕ
walk_end f = cond (nat_lt (length f) 16) 0 (cond (nat_lt 65536 (length f)) 0 (length f - 16))
