-- By the law of the shuffle.
use Rattle.shuffle.specs.Undoing.{forward_permutes}
use Rattle.shuffle.proofs.shuffle.forward_then_back.Goals as goal

pub returns-clause-permutes : goal.returns-clause-permutes
returns-clause-permutes g c = forward_permutes _ _ _ (g.met.S.Shuffle.undoes c.args.shuffle.now)
