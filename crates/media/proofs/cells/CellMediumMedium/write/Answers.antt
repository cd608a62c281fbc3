use Rattle.std.proofs.Common.{refl, arith}
use Rattle.medium.proofs.Piles.{served_bottom}
use Rattle.medium.proofs.Arrays.{wrote_accepted, wrote_denied, denies_line, denies_life}
use Rattle.media.proofs.cells.CellMediumMedium.write.Goals as goal

pub returns-then-line-count : goal.returns-then-line-count
returns-then-line-count g c = record { answer = wrote_denied _ _ _ _ _ _ _ (denies_line _ _ _ (omega arith)) refl refl; below = served_bottom _ _ _ _; memory = refl; effect = refl }

pub returns-then-self : goal.returns-then-self
returns-then-self g c = record { answer = wrote_denied _ _ _ _ _ _ _ (denies_life _ _ _ (omega arith) (omega arith)) refl refl; below = served_bottom _ _ _ _; memory = refl; effect = refl }

pub returns : goal.returns
returns g c = record { answer = wrote_accepted _ _ _ _ _ _ _ (omega arith) (omega arith) refl (omega arith) (omega arith); below = served_bottom _ _ _ _; memory = refl; effect = refl }
