-- The lemma of the mapping, at the power of two that a sound round has.
use Rattle.refresh.proofs.Places.{mapping}
use Rattle.refresh.proofs.theorems.places_and_holders.Goals as goal

pub returns : goal.returns
returns c = record { laws = λ n keys w s. mapping n s.power.0 w s.power.1 s.previous s.current }
