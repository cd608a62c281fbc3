-- A whole run on a byte medium: which fault comes, or what is answered and what is left. Assumes nothing.
use Rattle.std.specs.Prelude.{◌≡◌, ℕ, ◌*◌, min, cond, List, ◌++◌, map, take, drop, replicate, Some, None, Ok, Err, Option, Result, nat_le}
use Rattle.line.specs.declared.denial.Denial.{Denial}
use Rattle.line.specs.declared.load.Load.{Load}
use Rattle.medium.specs.Array.{Array, after, replies}
use Rattle.media.specs.Bytes.{byte_survey}
use Rattle.runfile.specs.declared.fault.Fault.{Fault}
use Rattle.runfile.specs.declared.fault.Stage.TheVariants.{Pile}
use Rattle.reader.specs.declared.reader.Run.{Run}
use Rattle.runfile.specs.declared.slot.Slot.{Slot}
use Rattle.runfile.specs.Faults.{or_fault}
use Rattle.reader.specs.Reading.{Reading, slots_after}
use Rattle.runfile.specs.Slots.{slot_at}
use Rattle.runner.specs.OnBytes.{Memory, array_in, memory_after, byte_answer, byte_totals}
use Rattle.runner.specs.Playing.{calls_of, marked}
use Rattle.runner.specs.declared.totals.Totals.{Totals}

-- ---- the survey of the medium
-- how many bytes a medium of so many lines finds in memory of that many bytes and counts
abbrev pub room : ℕ → ℕ → ℕ → ℕ
room lines bytes counts = cond (nat_le lines counts) (min bytes (lines * 16)) 0

-- a survey's denial, as a fault at a height of the pile and at the place of the settings
abbrev pub at_height : ℕ → ℕ → Result (Unit {0}) Denial → Option Fault
at_height height place (Ok u) = None
at_height height place (Err d) = Some (record { denial = d; place = place; stage = Pile height })

abbrev pub medium_fault : Run → ℕ → ℕ → Option Fault
medium_fault run bytes counts =
    at_height 0 run.place (byte_survey 16 run.settings.lines run.settings.life (room run.settings.lines bytes counts))

-- what was read, once the medium is surveyed too
abbrev pub surveyed : Result Reading Fault → ℕ → ℕ → Result Reading Fault
surveyed (Ok x) bytes counts = or_fault (medium_fault x.run bytes counts) x
surveyed (Err e) bytes counts = Err e

-- ---- a run that was read and surveyed, on the bytes bs
abbrev pub first_memory : Reading → List ℕ → Memory
first_memory x bs = record { bytes = take (x.run.settings.lines * 16) bs; counts = replicate x.run.settings.lines 0 }

abbrev pub first_array : Reading → List ℕ → Array Load
first_array x bs = array_in (first_memory x bs) x.run.settings.life

abbrev pub last_memory : Reading → List ℕ → Memory
last_memory x bs = memory_after (first_memory x bs) x.run.settings.life (calls_of x.requests)

abbrev pub last_array : Reading → List ℕ → Array Load
last_array x bs = after (first_array x bs) (calls_of x.requests)

-- the slots with their answers
abbrev pub marked_slots : Reading → List ℕ → List Slot
marked_slots x bs = marked (map slot_at x.requests) (map byte_answer (replies (first_array x bs) (calls_of x.requests)))

-- ---- what is answered, and what slots and memory then hold: at a fault of the reading all is as it was, and at one of the survey
-- the slots are filled and not marked
abbrev pub totals_of : Result Reading Fault → List ℕ → Result Totals Fault
totals_of (Ok x) bs = Ok (byte_totals x.run.number (last_array x bs))
totals_of (Err e) bs = Err e

abbrev pub slots_left : Result Reading Fault → Result Reading Fault → List ℕ → List Slot → List Slot
slots_left (Ok x) read bs ss = marked_slots x bs ++ drop x.run.number ss
slots_left (Err e) read bs ss = slots_after read ss

abbrev pub bytes_left : Result Reading Fault → List ℕ → List ℕ
bytes_left (Ok x) bs = (last_memory x bs).bytes ++ drop (x.run.settings.lines * 16) bs
bytes_left (Err e) bs = bs

abbrev pub counts_left : Result Reading Fault → List ℕ → List ℕ → List ℕ
counts_left (Ok x) bs cs = (last_memory x bs).counts ++ drop x.run.settings.lines cs
counts_left (Err e) bs cs = cs

-- the memory that is left means what the flat array has become
abbrev pub ArrayHeld : Result Reading Fault → List ℕ → Type 0
ArrayHeld (Ok x) bs = array_in (last_memory x bs) x.run.settings.life ≡ last_array x bs
ArrayHeld (Err e) bs = Unit {0}
