use Rattle.medium.proofs.Piles.{served_bottom}
use Rattle.media.proofs.cells.CellMediumMedium.read.Goals as goal

pub returns-clause-below : goal.returns-clause-below
returns-clause-below g c = served_bottom _ _ _ _
