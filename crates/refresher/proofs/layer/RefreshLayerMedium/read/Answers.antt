-- The line is read at its place.
use Rattle.std.proofs.Common.{◌<◌, length}
use Rattle.medium.specs.Meaning.{means}
use Rattle.medium.proofs.Arrays.{denies_read}
use Rattle.medium.proofs.Layers.{layer_denied}
use Rattle.refresher.specs.Layer.{registers, refresh_lines}
use Rattle.refresher.proofs.Held.{held_of}
use Rattle.refresher.proofs.Written.{placed, not_placed, read_served}
use Rattle.refresher.proofs.layer.RefreshLayerMedium.read.Goals as goal

pub returns-in_err-place-clause-below : goal.returns-in_err-place-clause-below
returns-in_err-place-clause-below g c =
    let x = c.args.self.now in
    layer_denied _ _ _ _ _ _ _ _ (denies_read _ _ (not_placed (registers x.registers) (means g.M.Medium x.below) c.args.line _ c.in_err-place.ensures.answer))

pub returns-clause-below : goal.returns-clause-below
returns-clause-below g c =
    let x = c.args.self.now in
    let b = means g.M.Medium x.below in
    let p = placed (registers x.registers) b c.args.line _ c.in_ok-place.ensures.answer in
    read_served (held_of x) b c.args.line p.0 _ _ c.in_ok-place.place p.1 c.read.ensures.below
