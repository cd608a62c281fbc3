use Rattle.std.proofs.Common.{◌≡◌, ◌+◌, ◌<◌, length, get_or, drop, sym, refl, ap, ◌∙◌, arith, length-drop}
use Rattle.std.proofs.lemmas.List.{drop_more}
use Rattle.runfile.specs.Asks.{placed_of}
use Rattle.reader.specs.Checked.{requests_left}
use Rattle.runner.proofs.Plays.{carried_none, carried_more, carried_all}
use Rattle.runner.proofs.play.carry_out.Goals as goal

pub loop-slot-init : goal.loop-slot-init
loop-slot-init g c = (refl, refl, carried_none g.M.Medium _ _ _)

pub unreachable-requires : goal.unreachable-requires
unreachable-requires g c =
    let all = requests_left c.args.requests in
    let one = c.requires.one_each in
    let left = ap length (sym c.in_default.ensures.steps.first.0 ∙ c.loop-slot.invariant.0) ∙ length-drop c.loop-slot.slot-index all in
    omega arith

pub loop-slot-preserved : goal.loop-slot-preserved
loop-slot-preserved g c =
    let all = requests_left c.args.requests in
    let i = c.loop-slot.slot-index in
    let p = placed_of c.in-Some.request in
    let v = c.loop-slot.invariant in
    let one = c.requires.one_each in
    let here : i < length c.args.slots.now = omega arith in
    let lt : i < length all = omega arith in
    let same = sym c.in-Some.ensures.steps.first ∙ v.0 ∙ drop_more all i p lt in
    let first : p ≡ get_or all i p = cc in
    let rest : requests_left c.next.new.self ≡ drop (i + 1) all = cc in (
      rest,
      c.answer.ensures.memory ∙ v.1,
      carried_more g.M.Medium all c.args.medium.now c.args.slots.now c.loop-slot.medium c.answer.new.medium i c.loop-slot.slots p _ c.answer.result lt here first c.answer.ensures.turn v.2,
    )

pub returns : goal.returns
returns g c =
    let v = c.loop-slot.invariant in
    let one = c.requires.one_each in
    let e : c.loop-slot.slot-index ≡ length c.args.slots.now = omega arith in
    record { memory = v.1; played = carried_all g.M.Medium _ _ _ c.loop-slot.medium c.loop-slot.slot-index c.loop-slot.slots e (e ∙ sym one) v.2 }
