-- The shuffle takes the line to its place below.
use Rattle.std.proofs.Common.{arith}
use Rattle.scatter.proofs.Scattered.{scatter_read}
use Rattle.scatter.proofs.layer.ScatterLayer.where_is.Goals as goal

pub returns-clause-content : goal.returns-clause-content
returns-clause-content g c =
    let x = c.args.self.now in
    scatter_read x.life _ _ _ (g.met.S.Shuffle.undoes x.shuffle) (g.M.Medium.lines x.below) c.args.line c.forward.result (omega arith) c.forward.ensures.answer
