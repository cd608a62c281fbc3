use Rattle.std.proofs.Common.{sym, subst, arith}
use Rattle.refresh.specs.declared.round.Round.{Round}
use Rattle.refresh.specs.Refresh.{Sound}
use Rattle.refresh.proofs.Refreshes.{refreshed_sound}
use Rattle.refresher.proofs.Held.{sound_of}
use Rattle.refresher.proofs.registers.Registers.count_write.Goals as goal

pub invariant_of-self-2 : goal.invariant_of-self-2
invariant_of-self-2 c =
    let x = c.args.self.now in
    let e = c.refreshed-self.ensures.value in
    let s = subst (λ (w : Round). Sound x.size x.keys.items w) (sym e) (refreshed_sound x.size x.keys.items x.round (sound_of x c.requires.some)) in
    let sp = s.previous in
    let sc = s.current in
    let sr = s.pointer in
    let w = x.waits in
    record { few = x.few; power = x.power; turn = s.turn; previous = omega arith; current = omega arith; pointer = omega arith; waits = omega arith }
