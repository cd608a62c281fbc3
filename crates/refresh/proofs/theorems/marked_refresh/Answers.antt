-- The definitions compute to the marked numbers.
use Rattle.std.proofs.Common.{refl}
use Rattle.refresh.specs.Refresh.{place_of, line_at, refreshed, refresh_copies, after_refreshes, copies_of_refreshes, write_copies, after_write, after_writes}
use Rattle.refresh.specs.Powers.{doubled}
use Rattle.refresh.proofs.theorems.marked_refresh.Goals as goal

pub returns : goal.returns
unfolding place_of line_at refreshed refresh_copies after_refreshes copies_of_refreshes write_copies after_write after_writes doubled
returns c =
    record { marked = (refl, refl, refl, refl, refl, refl, refl, refl, refl, refl, refl, refl, refl, refl, refl) }
