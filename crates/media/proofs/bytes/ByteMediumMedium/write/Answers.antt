use Rattle.std.proofs.Common.{◌≡◌, length, refl, arith}
use Rattle.medium.proofs.Piles.{served_bottom}
use Rattle.medium.proofs.Arrays.{wrote_denied, denies_line, denies_life}
use Rattle.media.proofs.Chunked.{line_there, line_room, mid_laid, write_wrote, counts_more}
use Rattle.media.proofs.bytes.ByteMediumMedium.write.Goals as goal

pub returns-then-line-count : goal.returns-then-line-count
returns-then-line-count g c =
    record { answer = wrote_denied _ _ _ _ _ _ _ (denies_line _ _ _ (omega arith)) refl refl; below = served_bottom _ _ _ _; memory = refl; effect = (refl, refl) }

pub returns-then-self : goal.returns-then-self
returns-then-self g c =
    let s = c.args.self.now.sums in
    record { answer = wrote_denied _ _ _ _ _ _ _ (denies_life _ _ _ (omega arith) (omega arith)) refl refl; below = served_bottom _ _ _ _; memory = refl; effect = (refl, refl) }

pub slice_bounds-write_to-end : goal.slice_bounds-write_to-end
slice_bounds-write_to-end g c =
    let m = c.args.self.now in
    line_room g.K.LineKind.reading g.K.LineKind.width c.width-width.result (length m.counts.now) c.args.line m.bytes.now (omega arith) c.width-width.ensures

pub bounds-self-line : goal.bounds-self-line
bounds-self-line g c =
    let m = c.args.self.now in
    (line_there g.K.LineKind.reading g.K.LineKind.width (length m.counts.now) c.args.line m.bytes.now (omega arith)).0

pub bounds-self-line-2 : goal.bounds-self-line-2
bounds-self-line-2 g c =
    let m = c.args.self.now in
    (line_there g.K.LineKind.reading g.K.LineKind.width (length m.counts.now) c.args.line m.bytes.now (omega arith)).0

pub invariant_of-self-2 : goal.invariant_of-self-2
invariant_of-self-2 g c =
    let m = c.args.self.now in
    let k = (line_there g.K.LineKind.reading g.K.LineKind.width (length m.counts.now) c.args.line m.bytes.now (omega arith)).0 in
    let s = m.sums in
    let f = m.few in
    let n = counts_more m.counts.now _ c.args.line k refl in
    let n0 = n.0 in
    let n1 = n.1 in
    record { few = omega arith; sums = omega arith; within = omega arith }

pub returns-clause-answer : goal.returns-clause-answer
returns-clause-answer g c =
    let m = c.args.self.now in
    let cs = m.counts.now in
    let get = g.K.LineKind.reading in
    let w = g.K.LineKind.width in
    let v = c.width-width.result in
    let ys = g.K.LineKind.writing c.args.value in
    let s = m.sums in
    let long = g.met.K.LineKind.long c.args.value in
    let is : c.write_to.new.buf ≡ ys = let a = c.in_ok-write_to.ensures.answer in let b = c.in_ok-write_to.ensures.after in grind arith in
    write_wrote get w m.bytes.now _ cs _ m.life _ c.args.line c.args.value ys (omega arith) (omega arith) refl refl
    (mid_laid c.args.line v w m.bytes.now c.write_to.new.buf ys c.width-width.ensures is long) long (g.met.K.LineKind.back c.args.value c.in_ok-write_to.ensures.fit)

pub returns-clause-below : goal.returns-clause-below
returns-clause-below g c = served_bottom _ _ _ _
