-- The requests so far are carried out and their slots marked; the others are left.
use Rattle.std.proofs.Common.{◌≡◌, drop}
use Rattle.reader.specs.Checked.{requests_left}
use Rattle.runner.proofs.Plays.{Carried}
use Rattle.runner.proofs.play.carry_out.Given as goal

abbrev pub invariant-loop-slot : goal.invariant-loop-slot
invariant-loop-slot g l =
    (requests_left l.requests ≡ drop l.slot-index (requests_left l.initial.requests))
    × (g.M.Medium.memory l.medium ≡ g.M.Medium.memory l.initial.medium)
    × Carried g.M.Medium (requests_left l.initial.requests) l.initial.medium l.medium l.slot-index l.initial.slots l.slots
