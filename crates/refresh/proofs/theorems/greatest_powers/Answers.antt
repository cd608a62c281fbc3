-- The lemmas of the greatest power of two.
use Rattle.refresh.proofs.Powers.{greatest_computed, greatest_only, greatest_two}
use Rattle.refresh.proofs.theorems.greatest_powers.Goals as goal

pub returns : goal.returns
returns c = record { powers = record { computed = greatest_computed; only = greatest_only; two = greatest_two } }
