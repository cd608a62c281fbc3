-- The lemmas of the counts of copies.
use Rattle.std.proofs.Common.{refl}
use Rattle.refresh.specs.Refresh.{first_round}
use Rattle.refresh.proofs.Counts.{whole_round, counted, bounded_first, bound_kept}
use Rattle.refresh.proofs.theorems.copies_counted.Goals as goal

pub returns : goal.returns
returns c = record { copies = record { rounds = whole_round; from_new = counted; bound_first = λ n keys. bounded_first (first_round n keys) refl; bound_kept = bound_kept } }
