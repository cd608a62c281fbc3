-- Denials alter nothing. Otherwise the write below is accepted, as the life pays for it, and so is a due copy; what follows is as the
-- lemmas on counted writes and on moves have it.
use Rattle.std.proofs.Common.{◌≡◌, ℕ, ◌+◌, ◌/◌, ◌≢◌, [], Some, Ok, sym, refl, ap, ◌∙◌, subst, arith, ◌%◌, ◌^◌}
use Rattle.startgap.specs.Regions.{row_at, gap_place, after_write}
use Rattle.line.specs.declared.denial.Denial.TheVariants.{NoSuchLine, LifeUsed}
use Rattle.medium.specs.Array.{denied_by}
use Rattle.medium.specs.Chain.{WriteStep, Chained}
use Rattle.medium.specs.Meaning.{means}
use Rattle.medium.specs.Pile.{gaps}
use Rattle.medium.specs.declared.call.Call.TheVariants.{Write}
use Rattle.medium.proofs.Arrays.{wrote_denied, denies_line, denies_life}
use Rattle.medium.proofs.Chains.{chained_none, chained_read, chained_write}
use Rattle.medium.proofs.Layers.{never, layer_denied}
use Rattle.gap.specs.Regions.{gap_array}
use Rattle.gap.specs.Registers.{registers}
use Rattle.gap.proofs.Fields.{fields, fetched_never, line_below, write_paid, write_accepted, counted_after}
use Rattle.gap.proofs.Written.{Begun, Copied, from_there, move_accepted, counted_wrote, counted_requests, counted_served, moved_wrote, moved_requests, moved_served}
use Rattle.gap.proofs.layer.GapLayerMedium.write.Goals as goal
use Rattle.gap.proofs.layer.GapLayerMedium.write.Goals.{in-Some+in_ok-moved-in-Some+in_ok-more-in-Some, in-None}

pub returns-then-line-count : goal.returns-then-line-count
returns-then-line-count g c =
    let x = c.args.self.now in
    let b = means g.M.Medium x.below in
    let G = registers x.regions in
    let u = g.M.Medium.wear x.below in
    let a = gap_array G x.life x.taken b in
    let no : denied_by a (Write c.args.line c.args.value) ≡ Some NoSuchLine = denies_line a c.args.line c.args.value (omega arith) in
    record {
      answer = wrote_denied a u c.args.line c.args.value a u NoSuchLine no refl refl;
      below = layer_denied (gaps G) b u (g.M.Medium.pile x.below) a u (Write c.args.line c.args.value) NoSuchLine no;
      memory = refl;
      effect = refl;
    }

pub returns-then-self-life : goal.returns-then-self-life
returns-then-self-life g c =
    let x = c.args.self.now in
    let b = means g.M.Medium x.below in
    let G = registers x.regions in
    let u = g.M.Medium.wear x.below in
    let a = gap_array G x.life x.taken b in
    let no : denied_by a (Write c.args.line c.args.value) ≡ Some LifeUsed = denies_life a c.args.line c.args.value (omega arith) (omega arith) in
    record {
      answer = wrote_denied a u c.args.line c.args.value a u LifeUsed no refl refl;
      below = layer_denied (gaps G) b u (g.M.Medium.pile x.below) a u (Write c.args.line c.args.value) LifeUsed no;
      memory = refl;
      effect = refl;
    }

pub returns-in_err-toll : goal.returns-in_err-toll
returns-in_err-toll g c =
    let x = c.args.self.now in
    let p : c.place-place.result ≡ gap_place (registers x.regions) c.args.line = cc in
    absurd (never _ _ (write_accepted (registers x.regions) x.life x.taken (fields x) (means g.M.Medium x.below) c.args.line c.place-place.result c.args.value (omega arith) (omega arith) p) c.in_err-toll.ensures.answer.answer.0)

pub returns-in_err-moved-in-Some : goal.returns-in_err-moved-in-Some
returns-in_err-moved-in-Some g c =
    let x = c.args.self.now in
    let b1 = means g.M.Medium c.write.new.self in
    let p : c.place-place.result ≡ gap_place (registers x.regions) c.args.line = cc in
    let begun : Begun (registers x.regions) x.life x.taken (means g.M.Medium x.below) b1 c.args.line c.place-place.result c.args.value (g.M.Medium.wear x.below) (g.M.Medium.wear c.write.new.self) c.in_ok-toll.toll =
    record { held = fields x; there = omega arith; lives = omega arith; place = p; wrote = c.in_ok-toll.ensures.answer } in
    let due = rw c.split-region.ensures.parts at c.in-Some.ensures in
    absurd (fetched_never b1.lines c.in-Some.field-0.from _ (from_there begun due) c.in_err-moved-in-Some.ensures.answer)

pub returns-in_err-more-in-Some : goal.returns-in_err-more-in-Some
returns-in_err-more-in-Some g c =
    let x = c.args.self.now in
    let b1 = means g.M.Medium c.write.new.self in
    let p : c.place-place.result ≡ gap_place (registers x.regions) c.args.line = cc in
    let begun : Begun (registers x.regions) x.life x.taken (means g.M.Medium x.below) b1 c.args.line c.place-place.result c.args.value (g.M.Medium.wear x.below) (g.M.Medium.wear c.write.new.self) c.in_ok-toll.toll =
    record { held = fields x; there = omega arith; lives = omega arith; place = p; wrote = c.in_ok-toll.ensures.answer } in
    let due = rw c.split-region.ensures.parts at c.in-Some.ensures in
    absurd (never _ _ (move_accepted begun due c.in_ok-moved-in-Some.moved) c.in_err-more-in-Some.ensures.answer.answer.0)

pub invariant_of-self-2 : goal.invariant_of-self-2
invariant_of-self-2 g c =
    let x = c.args.self.now in
    let i = c.args.line in
    let G = registers x.regions in
    let b = means g.M.Medium x.below in
    let hi = line_below x.regions b.lines i (omega arith) in
    let tl = (write_paid G x.life x.taken (fields x) b (omega arith)).0 in
    record {
      within = omega arith;
      counted = counted_after G (registers c.count_write.new.self) x.life x.taken i (fields x) hi (c.count_write.ensures i (sym (ap (λ (q : ℕ × ℕ). q.0) c.split-region.ensures.parts)));
    }

pub returns : goal.returns
returns g c =
    let x = c.args.self.now in
    let v = c.args.value in
    let G = registers x.regions in
    let b1 = means g.M.Medium c.write.new.self in
    let u1 = g.M.Medium.wear c.write.new.self in
    let pile = g.M.Medium.pile x.below in
    let pile1 = g.M.Medium.pile c.write.new.self in
    let p = c.place-place.result in
    let at : p ≡ gap_place G c.args.line = cc in
    let t1 = c.in_ok-toll.toll in
    let begun : Begun G x.life x.taken (means g.M.Medium x.below) b1 c.args.line p v (g.M.Medium.wear x.below) u1 t1 =
    record { held = fields x; there = omega arith; lives = omega arith; place = at; wrote = c.in_ok-toll.ensures.answer } in
    let first : WriteStep g.M.Medium x.below p v (Ok t1) c.write.new.self =
    record { answer = c.in_ok-toll.ensures.answer; below = c.in_ok-toll.ensures.below; effect = c.in_ok-toll.ensures.effect } in
    let turned : registers c.count_write.new.self ≡ after_write G c.args.line =
    c.count_write.ensures c.args.line (sym (ap (λ (q : ℕ × ℕ). q.0) c.split-region.ensures.parts)) in
    elim c.match-due_move.branch [
      | in-Some+in_ok-moved-in-Some+in_ok-more-in-Some w ↦
          let step = w.in-Some.field-0 in
          let y = w.in_ok-moved-in-Some.moved in
          let t2 = w.in_ok-more-in-Some.more in
          let last = w.write-in-Some.new.self in
          let more = w.in_ok-more-in-Some.ensures in
          let copied : Copied G (c.args.line / G.size) step b1 (means g.M.Medium last) y u1 (g.M.Medium.wear last) t2 =
          record { due = rw c.split-region.ensures.parts at w.in-Some.ensures; read = w.in_ok-moved-in-Some.ensures.answer; wrote = more.answer } in
          let second : WriteStep g.M.Medium c.write.new.self step.to y (Ok t2) last =
          record { answer = more.answer; below = more.below; effect = more.effect } in
          rw w.self-is
          (record {
            answer = moved_wrote begun copied turned _ (ap (λ m. (t1 + m) % 2 ^ 64) w.more-is);
            below = moved_served begun copied turned pile pile1 (g.M.Medium.pile last) c.in_ok-toll.ensures.below w.in_ok-moved-in-Some.ensures.below more.below;
            memory = more.memory ∙ c.in_ok-toll.ensures.memory;
            effect =
                subst (λ q. Chained g.M.Medium x.below q last) (moved_requests begun copied turned)
                (chained_write g.M.Medium x.below c.write.new.self last p v (Ok t1) _ first
                (chained_read g.M.Medium c.write.new.self last step.from _
                (chained_write g.M.Medium c.write.new.self last last step.to y (Ok t2) [] second (chained_none g.M.Medium last))));
          })
      | in-None w ↦
          let not_due : (row_at G (c.args.line / G.size)).due + 1 ≢ G.interval = rw c.split-region.ensures.parts at w.in-None.ensures in
          rw w.self-is
          (record {
            answer = counted_wrote begun turned not_due _ (ap (λ m. (t1 + m) % 2 ^ 64) w.more-is);
            below = counted_served begun turned not_due pile pile1 c.in_ok-toll.ensures.below;
            memory = c.in_ok-toll.ensures.memory;
            effect =
                subst (λ q. Chained g.M.Medium x.below q c.write.new.self) (counted_requests begun turned not_due)
                (chained_write g.M.Medium x.below c.write.new.self c.write.new.self p v (Ok t1) [] first (chained_none g.M.Medium c.write.new.self));
          })
    ]
