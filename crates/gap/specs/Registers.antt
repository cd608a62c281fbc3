-- The registers of regions by their fields, and the move that is due. Assumes nothing.
use Rattle.std.specs.Prelude.{◌≡◌, ℕ, ◌+◌}
use Rattle.startgap.specs.Regions.{Gaps, row_at, region_copy}
use Rattle.gap.specs.declared.regions.Move.{Move}
use Rattle.gap.specs.declared.regions.Regions.{Regions}

abbrev pub registers : Regions → Gaps
registers x = record { regions = x.count; size = x.size; interval = x.interval; rows = x.rows; copies = x.copies }

-- the next write to a region makes it move by that copy
pub record IsDue (g : Gaps) (region : ℕ) (step : Move) : Type 0 where
  pub due : (row_at g region).due + 1 ≡ g.interval
  pub from : step.from ≡ (region_copy g region).from
  pub to : step.to ≡ (region_copy g region).to
