-- What is paid for is granted below, at the place to which the shuffle takes the line.
use Rattle.std.proofs.Common.{◌<◌, ◌+◌, ◌-◌, length, Ok, refl, arith}
use Rattle.medium.specs.Meaning.{means}
use Rattle.medium.specs.Pile.{paid_life}
use Rattle.medium.proofs.Arrays.{denies_line, denies_life, wrote_denied}
use Rattle.medium.proofs.Chains.{chained_one}
use Rattle.medium.proofs.Layers.{paid_below, layer_denied, never}
use Rattle.scatter.specs.Scatters.{scatter_lines}
use Rattle.scatter.proofs.Scattered.{scatter_served_write, scatter_grants, scatter_wrote}
use Rattle.scatter.proofs.layer.ScatterLayerMedium.write.Goals as goal

pub returns-then-line-count : goal.returns-then-line-count
returns-then-line-count g c =
    record { answer = wrote_denied _ _ _ _ _ _ _ (denies_line _ _ _ (omega arith)) refl refl; below = layer_denied _ _ _ _ _ _ _ _ (denies_line _ _ _ (omega arith)); memory = refl; effect = refl }

pub returns-then-self-life : goal.returns-then-self-life
returns-then-self-life g c =
    record { answer = wrote_denied _ _ _ _ _ _ _ (denies_life _ _ _ (omega arith) (omega arith)) refl refl; below = layer_denied _ _ _ _ _ _ _ _ (denies_life _ _ _ (omega arith) (omega arith)); memory = refl; effect = refl }

pub returns-in_err-toll : goal.returns-in_err-toll
returns-in_err-toll g c =
    let x = c.args.self.now in
    let span = g.S.Shuffle.span x.shuffle in
    let f = g.S.Shuffle.forward x.shuffle in
    let b = means g.M.Medium x.below in
    let h : c.args.line < length (scatter_lines x.life span f b.lines) = omega arith in
    let k : x.taken < paid_life x.life x.taken x.life (x.taken + (b.life - b.taken)) = omega arith in
    let granted = scatter_grants x.life _ _ _ (g.met.S.Shuffle.undoes x.shuffle) b x.taken c.args.line c.forward.result c.args.value h k c.forward.ensures.answer in
    absurd (never _ _ granted c.in_err-toll.ensures.answer.answer.0)

pub invariant_of-self-2 : goal.invariant_of-self-2
invariant_of-self-2 g c =
    let x = c.args.self.now in
    let b = means g.M.Medium x.below in
    let k : x.taken < paid_life x.life x.taken x.life (x.taken + (b.life - b.taken)) = omega arith in
    let p = paid_below x.life x.taken x.life _ k in
    let p1 = p.1 in
    record { within = omega arith }

pub returns : goal.returns
returns g c =
    let x = c.args.self.now in
    let span = g.S.Shuffle.span x.shuffle in
    let f = g.S.Shuffle.forward x.shuffle in
    let undoes = g.met.S.Shuffle.undoes x.shuffle in
    let b = means g.M.Medium x.below in
    let h : c.args.line < length (scatter_lines x.life span f b.lines) = omega arith in
    let k : x.taken < paid_life x.life x.taken x.life (x.taken + (b.life - b.taken)) = omega arith in
    let b' = means g.M.Medium c.write.new.self in
    let w = c.in_ok-toll.ensures in
    record {
      answer = scatter_wrote x.life _ _ _ undoes b b' _ _ x.taken c.args.line c.forward.result c.args.value _ h k c.forward.ensures.answer w.answer;
      below = scatter_served_write x.life _ _ _ undoes b b' _ _ _ _ x.taken _ c.args.line c.forward.result c.args.value _ h k c.forward.ensures.answer w.answer w.below;
      memory = w.memory;
      effect = chained_one g.M.Medium x.below c.write.new.self c.forward.result (f c.args.line) c.args.value (Ok c.in_ok-toll.toll) c.forward.ensures.answer (record { answer = w.answer; below = w.below; effect = w.effect });
    }
