-- The request that is handed out is that of the slot.
use Rattle.std.proofs.Common.{◌≡◌, ◌+◌, ◌<◌, length, get_or, drop, sym, ap, ◌∙◌, arith}
use Rattle.std.proofs.lemmas.List.{drop_more}
use Rattle.runfile.specs.Asks.{placed_of}
use Rattle.reader.specs.Checked.{requests_left}
use Rattle.reader.proofs.Walk.{filled_more}
use Rattle.reader.proofs.reader.fill_slots.Goals as goal

pub loop-slot-preserved : goal.loop-slot-preserved
loop-slot-preserved c =
    let all = requests_left c.args.requests in
    let i = c.loop-slot.slot-index in
    let q = placed_of c.in-Some.request in
    let v = c.loop-slot.invariant in
    let first = c.in-Some.ensures.steps.first in
    let left = ap length first in
    let lt : i < length all = omega (arith, left) in
    let same = sym first ∙ v.0 ∙ drop_more all i q lt in
    let here : q ≡ get_or all i q = cc in
    let rest : requests_left c.next.new.self ≡ drop (i + 1) all = cc in
    (rest, omega (arith, left), filled_more all i c.args.slots.now c.loop-slot.slots c.unmarked.result q lt (omega arith) c.unmarked.ensures.slot here v.2)
