use Rattle.std.proofs.Common.{◌≡◌, ◌+◌, Ok, sym, refl, ap, ◌∙◌, subst, arith}
use Rattle.refresh.specs.Refresh.{Registers, after_write}
use Rattle.medium.specs.Chain.{WriteStep}
use Rattle.medium.specs.Meaning.{means}
use Rattle.medium.proofs.Arrays.{wrote_denied, denies_line, denies_life}
use Rattle.medium.proofs.Layers.{never, layer_denied}
use Rattle.refresher.specs.Layer.{registers}
use Rattle.refresher.proofs.Held.{Held, held_after, copies_after}
use Rattle.refresher.proofs.Written.{fetched_never, exchange_some, ready_of, ready_size, ready_lives, first_accepts, second_reads, third_reads, second_accepts, third_accepts, after_keeps, Done, Swapped, done_alone, done_exchanged}
use Rattle.refresher.proofs.layer.RefreshLayerMedium.write.Goals as goal
use Rattle.refresher.proofs.layer.RefreshLayerMedium.write.Goals.{in-None, in-Some+in_ok-mated-in-Some+in_ok-moved-in-Some+in_ok-first-in-Some+in_ok-second-in-Some}

pub returns-then-line-count-clause-answer : goal.returns-then-line-count-clause-answer
returns-then-line-count-clause-answer g c = wrote_denied _ _ _ _ _ _ _ (denies_line _ _ _ (omega arith)) refl refl

pub returns-then-line-count-clause-below : goal.returns-then-line-count-clause-below
returns-then-line-count-clause-below g c = layer_denied _ _ _ _ _ _ _ _ (denies_line _ _ _ (omega arith))

pub returns-then-self-life-clause-answer : goal.returns-then-self-life-clause-answer
returns-then-self-life-clause-answer g c = wrote_denied _ _ _ _ _ _ _ (denies_life _ _ _ (omega arith) (omega arith)) refl refl

pub returns-then-self-life-clause-below : goal.returns-then-self-life-clause-below
returns-then-self-life-clause-below g c = layer_denied _ _ _ _ _ _ _ _ (denies_life _ _ _ (omega arith) (omega arith))

pub returns-in_err-toll : goal.returns-in_err-toll
returns-in_err-toll g c =
    let ready = ready_of c.args.self.now (means g.M.Medium c.args.self.now.below) c.args.line (omega arith) (omega arith) in
    absurd (never _ _ (first_accepts ready c.place.result c.args.value c.place.ensures.value) c.in_err-toll.ensures.answer.answer.0)

pub returns-in_err-mated-in-Some : goal.returns-in_err-mated-in-Some
returns-in_err-mated-in-Some g c =
    let ready = ready_of c.args.self.now (means g.M.Medium c.args.self.now.below) c.args.line (omega arith) (omega arith) in
    let o = exchange_some _ _ (sym c.in-Some.ensures.value) in
    absurd (fetched_never _ _ _ (second_reads ready c.place.ensures.value c.in_ok-toll.ensures.answer o) c.in_err-mated-in-Some.ensures.answer)

pub returns-in_err-moved-in-Some : goal.returns-in_err-moved-in-Some
returns-in_err-moved-in-Some g c =
    let ready = ready_of c.args.self.now (means g.M.Medium c.args.self.now.below) c.args.line (omega arith) (omega arith) in
    let o = exchange_some _ _ (sym c.in-Some.ensures.value) in
    absurd (fetched_never _ _ _ (third_reads ready c.place.ensures.value c.in_ok-toll.ensures.answer o) c.in_err-moved-in-Some.ensures.answer)

pub returns-in_err-first-in-Some : goal.returns-in_err-first-in-Some
returns-in_err-first-in-Some g c =
    let ready = ready_of c.args.self.now (means g.M.Medium c.args.self.now.below) c.args.line (omega arith) (omega arith) in
    let o = exchange_some _ _ (sym c.in-Some.ensures.value) in
    absurd (never _ _ (second_accepts ready c.place.ensures.value c.in_ok-toll.ensures.answer o c.in_ok-mated-in-Some.mated) c.in_err-first-in-Some.ensures.answer.answer.0)

pub returns-in_err-second-in-Some : goal.returns-in_err-second-in-Some
returns-in_err-second-in-Some g c =
    let ready = ready_of c.args.self.now (means g.M.Medium c.args.self.now.below) c.args.line (omega arith) (omega arith) in
    let o = exchange_some _ _ (sym c.in-Some.ensures.value) in
    absurd (never _ _ (third_accepts ready c.place.ensures.value c.in_ok-toll.ensures.answer o c.in_ok-moved-in-Some.moved c.in_ok-first-in-Some.ensures.answer) c.in_err-second-in-Some.ensures.answer.answer.0)

pub count_write-requires : goal.count_write-requires
count_write-requires g c =
    let x = c.args.self.now in
    let ready = ready_of x (means g.M.Medium x.below) c.args.line (omega arith) (omega arith) in
    let some = ready_size ready in
    let k = copies_after ready.held some (ready_lives ready) in
    let room = x.room in
    record { some = some; room = omega arith }

pub invariant_of-self-2 : goal.invariant_of-self-2
invariant_of-self-2 g c =
    let x = c.args.self.now in
    let ready = ready_of x (means g.M.Medium x.below) c.args.line (omega arith) (omega arith) in
    let l = ready_lives ready in
    let h = subst (λ (r : Registers). Held r (x.taken + 1) x.life) (sym c.count_write.ensures.after) (held_after ready.held (ready_size ready) l) in
    let k = after_keeps (registers x.registers) in
    let size : c.count_write.new.self.size ≡ x.registers.size = ap (λ (r : Registers). r.size) c.count_write.ensures.after ∙ k.1 in
    let interval : c.count_write.new.self.interval ≡ x.registers.interval = ap (λ (r : Registers). r.interval) c.count_write.ensures.after ∙ k.0 in
    record {
      within = h.within;
      counted = h.counted;
      bounded = h.bounded;
      costs = rw (size, interval) x.costs;
      room = rw (size, interval) x.room;
    }

pub returns : goal.returns
returns g c =
    let x = c.args.self.now in
    let G = g.M.Medium in
    let ready = ready_of x (means G x.below) c.args.line (omega arith) (omega arith) in
    let s1 : WriteStep G x.below c.place.result c.args.value (Ok c.in_ok-toll.toll) c.write.new.self =
    record { answer = c.in_ok-toll.ensures.answer; below = c.in_ok-toll.ensures.below; effect = c.in_ok-toll.ensures.effect } in
    let done : Done G (registers x.registers) (after_write (registers x.registers)) x.taken x.life x.below c.match-exchange.self.1.0 c.args.line c.args.value c.match-exchange.toll
    × (G.memory c.match-exchange.self.1.0 ≡ G.memory x.below) =
    elim c.match-exchange.branch [
      | in-None w ↦ rw (w.self-is, w.toll-is) (done_alone G ready c.place.ensures.value s1 (sym w.in-None.ensures.value), c.in_ok-toll.ensures.memory)
      | in-Some+in_ok-mated-in-Some+in_ok-moved-in-Some+in_ok-first-in-Some+in_ok-second-in-Some w ↦
          let swapped : Swapped G c.write.new.self w.write-in-Some-2.new.self w.in-Some.field-0.previous w.in-Some.field-0.current w.in_ok-first-in-Some.first w.in_ok-second-in-Some.second =
          record {
            half = w.write-in-Some.new.self;
            mated = w.in_ok-mated-in-Some.mated;
            moved = w.in_ok-moved-in-Some.moved;
            reads_mated = w.in_ok-mated-in-Some.ensures.answer;
            serves_mated = w.in_ok-mated-in-Some.ensures.below;
            reads_moved = w.in_ok-moved-in-Some.ensures.answer;
            serves_moved = w.in_ok-moved-in-Some.ensures.below;
            writes_mated = record { answer = w.in_ok-first-in-Some.ensures.answer; below = w.in_ok-first-in-Some.ensures.below; effect = w.in_ok-first-in-Some.ensures.effect };
            writes_moved = record { answer = w.in_ok-second-in-Some.ensures.answer; below = w.in_ok-second-in-Some.ensures.below; effect = w.in_ok-second-in-Some.ensures.effect };
          } in
          rw (w.self-is, w.toll-is) (
            done_exchanged G ready c.place.ensures.value s1 _ _ (sym w.in-Some.ensures.value) swapped refl,
            w.in_ok-second-in-Some.ensures.memory ∙ w.in_ok-first-in-Some.ensures.memory ∙ c.in_ok-toll.ensures.memory,
          )
    ] in
    let d = subst (λ (h : Registers). Done G (registers x.registers) h x.taken x.life x.below c.match-exchange.self.1.0 c.args.line c.args.value c.match-exchange.toll) (sym c.count_write.ensures.after) done.0 in
    record { answer = d.answer; below = d.below; memory = done.1; effect = d.effect }
