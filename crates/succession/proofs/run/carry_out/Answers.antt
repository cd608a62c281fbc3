use Rattle.std.proofs.Common.{◌≡◌, take, refl, ◌∙◌, subst, arith}
use Rattle.medium.specs.Chain.{InTurn}
use Rattle.medium.proofs.Chains.{turn_none, turn_push}
use Rattle.medium.proofs.Fittings.{lasts, leads, evenly}
use Rattle.medium.proofs.Piles.{ran_none, ran_push, rest_push, ran_books, ran_upto, rest_upto}
use Rattle.succession.proofs.run.carry_out.Goals as goal

pub loop-i-init : goal.loop-i-init
loop-i-init g c = (refl, refl, turn_none g.M.Medium _, ran_none _ _ _)

pub loop-i-preserved : goal.loop-i-preserved
loop-i-preserved g c =
    let i = c.loop-i.invariant in (
      rest_push c.loop-i.answers c.args.answers.now c.loop-i.i _ i.0,
      c.ask.ensures.memory ∙ i.1,
      turn_push g.M.Medium _ _ _ c.args.calls.now c.loop-i.answers c.loop-i.i _ _ (omega arith) (omega arith) c.index-calls-i.is i.2 c.ask.ensures.turn,
      ran_push _ _ _ _ _ _ _ _ _ c.args.calls.now c.loop-i.answers c.loop-i.i _ _ (omega arith) (omega arith) c.index-calls-i.is i.3 c.ask.ensures.ran,
    )

pub returns : goal.returns
returns g c =
    let i = c.loop-i.invariant in
    let e : c.loop-i.i ≡ c.min-n.result = omega arith in
    let r = ran_upto _ _ _ _ _ _ c.args.calls.now c.loop-i.answers c.loop-i.i c.min-n.result e i.3 in
    record {
      count = c.min-n.ensures;
      rest = rest_upto c.loop-i.answers c.args.answers.now c.loop-i.i c.min-n.result e i.0;
      memory = i.1;
      turns = subst (λ k. InTurn g.M.Medium c.args.pile.now (take k c.args.calls.now) (take k c.loop-i.answers) c.loop-i.pile) e i.2;
      law = record { ran = r; lasts = lasts _ _; books = ran_books _ _ _ _ _ _ _ _ r; leads = leads _ _ _; even = evenly _ _ _ _ };
    }
