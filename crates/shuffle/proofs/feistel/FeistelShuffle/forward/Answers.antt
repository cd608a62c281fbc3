-- The stages of the keys, in order, are the network's.
use Rattle.std.proofs.Common.{◌≡◌, ◌∙◌, arith, rules}
use Rattle.std.specs.List.{fold}
use Rattle.shuffle.specs.Split.{stage_of}
use Rattle.shuffle.proofs.Stages.{forward_is}
use Rattle.shuffle.proofs.feistel.FeistelShuffle.forward.Goals as goal

pub returns : goal.returns
returns c =
    let s = c.args.self.now in
    let staged : c.fold.result ≡ fold stage_of c.new.result s.keys = search rules in
    let n = c.new.ensures in
    record { answer = c.join.ensures ∙ forward_is s.half_width c.args.number (omega arith) c.new.result c.fold.result n.width n.halves s.keys staged }
