-- The lemmas of one refresh, and of many.
use Rattle.refresh.proofs.Contents.{one_refresh, refreshes_keep}
use Rattle.refresh.proofs.theorems.one_refresh.Goals as goal

pub returns : goal.returns
returns c = record { refresh = record { one = one_refresh; many = refreshes_keep } }
