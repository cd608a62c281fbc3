-- There are as many lines as the size, where the places below suffice for them, and else none.
use Rattle.std.proofs.Common.{sym, ◌∙◌, arith}
use Rattle.medium.proofs.Layers.{placed_length, placed_empty}
use Rattle.scatter.specs.Scatters.{scatter_size}
use Rattle.scatter.proofs.Scattered.{stays_below}
use Rattle.scatter.proofs.layer.ScatterLayerMedium.count.Goals as goal

pub returns-then-size-count : goal.returns-then-size-count
returns-then-size-count g c =
    let x = c.args.self.now in
    let span = g.S.Shuffle.span x.shuffle in
    let f = g.S.Shuffle.forward x.shuffle in
    let n = scatter_size x.life span in
    record { answer = c.size-size.ensures ∙ sym (placed_length n n f (stays_below x.life _ _ _ (g.met.S.Shuffle.undoes x.shuffle)) (g.M.Medium.lines x.below) (omega arith)); bound = omega arith }

pub returns-else-size-count : goal.returns-else-size-count
returns-else-size-count g c =
    let x = c.args.self.now in
    let span = g.S.Shuffle.span x.shuffle in
    let f = g.S.Shuffle.forward x.shuffle in
    let n = scatter_size x.life span in
    record { answer = sym (placed_empty n n f (stays_below x.life _ _ _ (g.met.S.Shuffle.undoes x.shuffle)) (g.M.Medium.lines x.below) (omega arith)); bound = omega arith }
