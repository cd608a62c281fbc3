use Rattle.std.proofs.Common.{sym, ◌∙◌, arith}
use Rattle.refresh.specs.Refresh.{place_of}
use Rattle.medium.proofs.Layers.{placed_length, placed_empty}
use Rattle.refresher.proofs.Held.{held_of}
use Rattle.refresher.proofs.Written.{held_stays}
use Rattle.refresher.proofs.layer.RefreshLayerMedium.count.Goals as goal

pub returns-then-size-count-clause-answer : goal.returns-then-size-count-clause-answer
returns-then-size-count-clause-answer g c =
    let x = c.args.self.now in
    let r = x.registers in
    let e = c.size-size.ensures.value in
    e ∙ sym (placed_length r.size r.size (place_of r.round) (held_stays (held_of x)) (g.M.Medium.lines x.below) (omega arith))

pub returns-else-size-count-clause-answer : goal.returns-else-size-count-clause-answer
returns-else-size-count-clause-answer g c =
    let x = c.args.self.now in
    let r = x.registers in
    let e = c.size-size.ensures.value in
    sym (placed_empty r.size r.size (place_of r.round) (held_stays (held_of x)) (g.M.Medium.lines x.below) (omega arith))
