use Rattle.std.proofs.Common.{◌∙◌, arith}
use Rattle.std.proofs.lemmas.Nat.{one_shl}
use Rattle.refresher.proofs.Sizes.{power_shift}
use Rattle.refresher.proofs.registers.size_for.Goals as goal

pub returns : goal.returns
returns c =
    let e = c.clamp.ensures in
    let low = c.ilog2.ensures.power_le in
    let high = c.ilog2.ensures.next_power_gt in
    record { value = one_shl c.ilog2.result 16 c.ilog2.ensures.bound ∙ power_shift c.args.count c.ilog2.result (omega arith) (omega arith) }
