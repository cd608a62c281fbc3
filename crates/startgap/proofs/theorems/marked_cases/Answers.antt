-- The definitions compute to the marked numbers.
use Rattle.std.proofs.Common.{refl}
use Rattle.startgap.specs.Rows.{row_place, row_line, row_holder, row_from, row_moved}
use Rattle.startgap.specs.Regions.{gap_place, gap_holder, write_copies, after_write, gaps_after, gaps_copies}
use Rattle.startgap.proofs.theorems.marked_cases.Goals as goal

pub returns-clause-marked : goal.returns-clause-marked
unfolding row_place row_line row_holder row_from row_moved gap_place gap_holder write_copies after_write gaps_after gaps_copies
returns-clause-marked c = (refl, refl, refl, refl, refl, refl, refl, refl, refl, refl, refl)
