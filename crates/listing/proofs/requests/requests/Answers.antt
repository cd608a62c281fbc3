use Rattle.std.proofs.Common.{refl, arith}
use Rattle.listing.proofs.Printed.{no_slot, put_none, put_line, put_all}
use Rattle.listing.proofs.requests.requests.Goals as goal

pub loop-slot-init : goal.loop-slot-init
loop-slot-init g c plain = put_none g.W.Write.write_str_gives c.args.f.now plain

pub loop-slot-preserved : goal.loop-slot-preserved
loop-slot-preserved g c plain =
    let p = c.loop-slot.invariant plain in
    let q = c.in_ok-writeln.ensures.writes p.plain refl in
    put_line g.W.Write.write_str_gives c.args.f.now c.loop-slot.f c.writeln.new.self c.args.slots.now c.loop-slot.slot-index no_slot (omega arith) p q

pub returns : goal.returns
returns g c plain ok = put_all g.W.Write.write_str_gives c.args.f.now c.loop-slot.f c.args.slots.now c.loop-slot.slot-index (omega arith) (c.loop-slot.invariant plain)
