-- The calls so far have run, their answers stand, and the rest of the answers is as it was.
use Rattle.std.proofs.Common.{◌≡◌, take, drop}
use Rattle.medium.specs.Chain.{InTurn}
use Rattle.medium.specs.Law.{Ran}
use Rattle.medium.specs.Meaning.{means}
use Rattle.succession.proofs.run.carry_out.Given as goal

abbrev pub invariant-loop-i : goal.invariant-loop-i
invariant-loop-i g l =
    (drop l.i l.answers ≡ drop l.i l.initial.answers)
    × (g.M.Medium.memory l.pile ≡ g.M.Medium.memory l.initial.pile)
    × InTurn g.M.Medium l.initial.pile (take l.i l.calls) (take l.i l.answers) l.pile
    × Ran (g.M.Medium.pile l.initial.pile) (means g.M.Medium l.initial.pile) (g.M.Medium.wear l.initial.pile) (take l.i l.calls) (take l.i l.answers) (g.M.Medium.pile l.pile) (means g.M.Medium l.pile) (g.M.Medium.wear l.pile)
