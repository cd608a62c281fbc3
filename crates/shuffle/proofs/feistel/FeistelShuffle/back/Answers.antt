-- The stages of the keys undone, the last first, are the network's.
use Rattle.std.proofs.Common.{◌≡◌, ◌∙◌, arith, rules}
use Rattle.std.specs.Prelude.{reverse}
use Rattle.std.specs.List.{fold}
use Rattle.shuffle.specs.Split.{unstage_of}
use Rattle.shuffle.proofs.Stages.{back_is}
use Rattle.shuffle.proofs.feistel.FeistelShuffle.back.Goals as goal

pub returns : goal.returns
returns c =
    let s = c.args.self.now in
    let unstaged : c.fold.result ≡ fold unstage_of c.new.result (reverse s.keys) = search rules in
    let n = c.new.ensures in
    record { answer = c.join.ensures ∙ back_is s.half_width c.args.number (omega arith) c.new.result c.fold.result n.width n.halves s.keys unstaged }
