-- What is appended to a file, by the answer. Assumes nothing.
use Rattle.std.specs.Prelude.{◌≡◌, ℕ, ◌+◌, ◌<◌, ◌≤◌, List, ◌++◌, length, Ok, Err, vec_items, vec_len, vec_capacity, Result, Vec}
use Rattle.std.specs.declared.alloc.Global.{Global}
use Rattle.runfile.specs.Asks.{Ask}
use Rattle.runfile.specs.RunFile.{asks_bytes}
use Rattle.compose.specs.declared.bytes.Extent.{Extent}
use Rattle.compose.specs.declared.refusal.Fault.{Fault}
use Rattle.compose.specs.declared.refusal.Refusal.{Refusal}
use Rattle.compose.specs.declared.refusal.Refusal.TheVariants.{NoMemory, Text}
use Rattle.compose.specs.Lines.{Entry}
use Rattle.compose.specs.Scripts.{Script, asks_in, script_of, file_of}

-- something was appended to xs
abbrev pub Longer : List ℕ → List ℕ → Type 0
Longer xs ys = (more : List ℕ) × (ys ≡ xs ++ more)

-- the requests of the entries were appended to xs
abbrev pub Appended : List Entry → List ℕ → Result Extent Fault → List ℕ → Type 0
Appended es xs (Ok x) ys =
    (qs : List Ask) × ((asks_in 0 es ≡ Ok qs) × (ys ≡ xs ++ asks_bytes qs) × (x.size ≡ length (asks_bytes qs)) × (x.size ≤ 65500) × (x.number ≡ length qs))
Appended es xs (Err e) ys = (asks_in 0 es ≡ Err e) × Longer xs ys

-- the run file of the text was appended to xs
abbrev pub Written : List ℕ → List ℕ → Result (Unit {0}) Fault → List ℕ → Type 0
Written text xs (Ok _) ys = (x : Script) × ((script_of text ≡ Ok x) × (ys ≡ xs ++ file_of x))
Written text xs (Err e) ys = (script_of text ≡ Err e) × Longer xs ys

-- the same, and a refusal leaves the bytes as they were; there is no memory only where less than the longest run file was reserved
abbrev pub Composed : List ℕ → Vec ℕ Global → Result (Unit {0}) Refusal → Vec ℕ Global → Type 0
Composed text v (Ok _) w = (x : Script) × ((script_of text ≡ Ok x) × (vec_items w ≡ vec_items v ++ file_of x))
Composed text v (Err NoMemory) w = (vec_capacity v < vec_len v + 65536) × (vec_items w ≡ vec_items v)
Composed text v (Err (Text e)) w = (script_of text ≡ Err e) × (vec_items w ≡ vec_items v)
