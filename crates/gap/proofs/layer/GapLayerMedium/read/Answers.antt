-- The line is read at its place.
use Rattle.line.specs.declared.denial.Denial.TheVariants.{NoSuchLine}
use Rattle.medium.specs.Meaning.{means}
use Rattle.medium.specs.Pile.{gaps}
use Rattle.medium.specs.declared.call.Call.TheVariants.{Read}
use Rattle.medium.proofs.Arrays.{denies_read}
use Rattle.medium.proofs.Layers.{layer_denied}
use Rattle.gap.specs.Regions.{gap_array}
use Rattle.gap.specs.Registers.{registers}
use Rattle.gap.proofs.Fields.{sound_of, placed, not_placed, read_served}
use Rattle.gap.proofs.layer.GapLayerMedium.read.Goals as goal

pub returns-in_err-place-clause-below : goal.returns-in_err-place-clause-below
returns-in_err-place-clause-below g c =
    let x = c.args.self.now in
    let b = means g.M.Medium x.below in
    let G = registers x.regions in
    let u = g.M.Medium.wear x.below in
    let a = gap_array G x.life x.taken b in
    layer_denied (gaps G) b u (g.M.Medium.pile x.below) a u (Read c.args.line) NoSuchLine (denies_read a c.args.line (not_placed G _ _ _ c.in_err-place.ensures.answer))

pub returns-clause-below : goal.returns-clause-below
returns-clause-below g c =
    let x = c.args.self.now in
    let b = means g.M.Medium x.below in
    let p = placed (registers x.regions) _ _ _ c.in_ok-place.ensures.answer in
    read_served (registers x.regions) (sound_of x.regions) b x.life x.taken (g.M.Medium.wear x.below) (g.M.Medium.pile x.below) c.args.line c.in_ok-place.place p.0 p.1 c.read.ensures.below
