-- By the law of the shuffle.
use Rattle.shuffle.specs.Undoing.{back_permutes}
use Rattle.shuffle.proofs.shuffle.back_then_forward.Goals as goal

pub returns-clause-permutes : goal.returns-clause-permutes
returns-clause-permutes g c = back_permutes _ _ _ (g.met.S.Shuffle.undoes c.args.shuffle.now)
