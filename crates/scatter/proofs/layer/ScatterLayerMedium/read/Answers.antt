-- The line is below at the place to which the shuffle takes it.
use Rattle.std.proofs.Common.{length}
use Rattle.medium.specs.Meaning.{means}
use Rattle.medium.proofs.Arrays.{denies_read}
use Rattle.medium.proofs.Layers.{layer_denied}
use Rattle.scatter.specs.Scatters.{scatter_lines}
use Rattle.scatter.proofs.Scattered.{placed, not_placed, scatter_served_read}
use Rattle.scatter.proofs.layer.ScatterLayerMedium.read.Goals as goal

pub returns-in_err-place-clause-below : goal.returns-in_err-place-clause-below
returns-in_err-place-clause-below g c =
    let x = c.args.self.now in
    let f = g.S.Shuffle.forward x.shuffle in
    let n = length (scatter_lines x.life (g.S.Shuffle.span x.shuffle) f (g.M.Medium.lines x.below)) in
    layer_denied _ _ _ _ _ _ _ _ (denies_read _ _ (not_placed n f c.args.line _ c.in_err-place.ensures.answer))

pub returns-clause-below : goal.returns-clause-below
returns-clause-below g c =
    let x = c.args.self.now in
    let f = g.S.Shuffle.forward x.shuffle in
    let n = length (scatter_lines x.life (g.S.Shuffle.span x.shuffle) f (g.M.Medium.lines x.below)) in
    let p = placed n f c.args.line _ c.in_ok-place.ensures.answer in
    scatter_served_read x.life _ _ _ (g.met.S.Shuffle.undoes x.shuffle) (means g.M.Medium x.below) _ _ _ _ c.args.line c.in_ok-place.place p.0 p.1 c.read.ensures.below
