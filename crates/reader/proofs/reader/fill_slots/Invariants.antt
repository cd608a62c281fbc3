-- The slots of the requests that were handed out are filled.
use Rattle.std.proofs.Common.{◌≡◌, ◌+◌, length, drop}
use Rattle.reader.specs.Checked.{requests_left}
use Rattle.reader.proofs.Walk.{Filled}
use Rattle.reader.proofs.reader.fill_slots.Given as goal

abbrev pub invariant-loop-slot : goal.invariant-loop-slot
invariant-loop-slot l =
    (requests_left l.requests ≡ drop l.slot-index (requests_left l.initial.requests))
    × (length (requests_left l.requests) + l.slot-index ≡ length (requests_left l.initial.requests))
    × Filled (requests_left l.initial.requests) l.slot-index l.initial.slots l.slots
