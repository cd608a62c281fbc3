-- A write through the layer. The write at the line's place changes that line alone, since no two lines share a place; a counted write
-- changes no place; a move copies a line into the gap, where no line is, and then finds it there. What was asked below is thus what the
-- definitions say, and the life is paid for as before.
use Rattle.std.proofs.Common.{◌≡◌, ℕ, ◌+◌, ◌-◌, ◌/◌, ◌%◌, ◌^◌, ◌<◌, ◌≤◌, ◌≢◌, List, [], ◌∷◌, ◌++◌, length, get_or, set, None, Ok, sym, refl, ap, ◌∙◌, subst, ⊎_elim, arith}
use Rattle.std.proofs.lemmas.List.{length-set, get_or-set_same, get_or-set_other}
use Rattle.std.proofs.lemmas.Bool.{cases_eq}
use Rattle.startgap.specs.Rows.{row_counted, row_moved}
use Rattle.startgap.specs.Regions.{Gaps, GapsSound, row_at, line_count, place_count, gap_place, region_copy, with_row, after_write}
use Rattle.startgap.proofs.Regions.{line_region, place_within, places_apart}
use Rattle.startgap.proofs.Writes.{line_low, with_row_sound, counted_places, copy_line_below, copy_reads, copy_from_below, copy_to_below, copy_to_free, copy_arrives, copy_leaves, moved_gaps_sound, write_counts, write_moves}
use Rattle.medium.specs.Array.{Array, fetched, denied_by, Wrote}
use Rattle.medium.specs.Law.{left}
use Rattle.medium.specs.Pile.{gaps, requests, reads_of, writes_of, Pile, over, Served}
use Rattle.medium.specs.declared.call.Call.TheVariants.{Read, Write}
use Rattle.medium.proofs.Arrays.{next_accepted, accepts_write, wrote_accepted}
use Rattle.medium.proofs.Layers.{placed_at, placed_same, placed_keep, fetched_is, paid_below, paid_yes, Asked, asked_write, asked_read, asked_more, layer_accepted}
use Rattle.gap.specs.Regions.{gap_lines, gap_life, gap_array}
use Rattle.gap.specs.declared.regions.Move.{Move}
use Rattle.gap.specs.Registers.{IsDue}
use Rattle.gap.proofs.Fields.{Held, line_there, write_paid, move_paid}

-- ---- lines
module _ {A : Type 0} (g : Gaps) (s : GapsSound g) (ls : List A) (i : ℕ) (h : i < line_count g) (k : place_count g ≤ length ls) where
  -- the write at the line's place
  lines_set : (v : A) → gap_lines g (set ls (gap_place g i) v) ≡ set (gap_lines g ls) i v
  lines_set v =
      let p = place_within g s i h in
      placed_same (line_count g) (place_count g) (gap_place g) (gap_place g) (place_within g s) (place_within g s) ls (set ls (gap_place g i) v) i v k
      (length-set ls (gap_place g i) v) h
      (λ d. get_or-set_same ls (gap_place g i) v d (omega arith))
      (λ j d hj ne. get_or-set_other ls (gap_place g i) (gap_place g j) v d (λ e. ne (places_apart g s j i hj h e)))

  -- a counted write
  lines_counted : ((row_at g (i / g.size)).due + 1 < g.interval) → gap_lines (with_row g (i / g.size) (row_counted (row_at g (i / g.size))) g.copies) ls ≡ gap_lines g ls
  lines_counted less =
      let r = line_region g s i h in
      let s' = with_row_sound g (i / g.size) (row_counted (row_at g (i / g.size))) g.copies s (s.rows (i / g.size) r) less in
      placed_keep (line_count g) (place_count g) (gap_place g) (gap_place (with_row g (i / g.size) (row_counted (row_at g (i / g.size))) g.copies))
      (place_within g s) (place_within _ s') ls ls k refl
      (λ j d hj. ap (λ p. get_or ls p d) (counted_places g (i / g.size) g.copies (line_low g s i h) j))

  -- a move
  lines_moved : (n : ℕ) (x : A) → ((d : A) → x ≡ get_or ls (region_copy g (i / g.size)).from d)
      → gap_lines (with_row g (i / g.size) (row_moved g.size (row_at g (i / g.size))) n) (set ls (region_copy g (i / g.size)).to x) ≡ gap_lines g ls
  lines_moved n x e =
      let r = line_region g s i h in
      let R = i / g.size in
      let to = (region_copy g R).to in
      let m = (region_copy g R).moved in
      let f' = gap_place (with_row g R (row_moved g.size (row_at g R)) n) in
      let t = copy_to_below g s R r in
      placed_keep (line_count g) (place_count g) (gap_place g) f' (place_within g s) (place_within _ (moved_gaps_sound g s R r n)) ls (set ls to x) k
      (length-set ls to x)
      (λ j d hj. ⊎_elim
      (λ (q : j ≡ m).
      ap (λ z. get_or (set ls to x) (f' z) d) q
      ∙ ap (λ z. get_or (set ls to x) z d) (copy_arrives g s R r n)
      ∙ get_or-set_same ls to x d (omega arith)
      ∙ e d
      ∙ ap (λ z. get_or ls z d) (sym (copy_reads g s R r))
      ∙ ap (λ z. get_or ls (gap_place g z) d) (sym q))
      (λ ne.
      ap (λ z. get_or (set ls to x) z d) (copy_leaves g s R r n j hj ne)
      ∙ get_or-set_other ls to (gap_place g j) x d (copy_to_free g s R r j hj))
      (cases_eq j m))

  -- the line that a move copies
  line_moved : (v x : A) → x ≡ get_or (set ls (gap_place g i) v) (region_copy g (i / g.size)).from v
      → x ≡ get_or (set (gap_lines g ls) i v) (region_copy g (i / g.size)).moved v
  line_moved v x e =
      let r = line_region g s i h in
      let R = i / g.size in
      let l : place_count g ≤ length (set ls (gap_place g i) v) = let q = length-set ls (gap_place g i) v in omega arith in
      e
      ∙ ap (λ z. get_or (set ls (gap_place g i) v) z v) (sym (copy_reads g s R r))
      ∙ sym (placed_at (line_count g) (place_count g) (gap_place g) (place_within g s) (set ls (gap_place g i) v) (region_copy g R).moved v l (copy_line_below g s R r))
      ∙ ap (λ z. get_or z (region_copy g R).moved v) (lines_set v)

-- ---- the write at the line's place, of v to line i of a layer that means gap_array g life taken b: it leaves b1, with toll x1
pub record Begun {A : Type 0} (g : Gaps) (life taken : ℕ) (b b1 : Array A) (i p : ℕ) (v : A) (u u1 x1 : ℕ) : Type 0 where
  pub held : Held g taken life
  pub there : i < length (gap_lines g b.lines)
  pub lives : taken < gap_life g life taken (left b)
  pub place : p ≡ gap_place g i
  pub wrote : Wrote b u p v b1 u1 (Ok x1)

-- the copy that follows, where a move is due: it reads x, and leaves b2, with toll x2
pub record Copied {A : Type 0} (g : Gaps) (region : ℕ) (step : Move) (b1 b2 : Array A) (x : A) (u1 u2 x2 : ℕ) : Type 0 where
  pub due : IsDue g region step
  pub read : Ok x ≡ fetched b1.lines step.from
  pub wrote : Wrote b1 u1 step.to x b2 u2 (Ok x2)

module _ {A : Type 0} {g : Gaps} {life taken : ℕ} {b b1 : Array A} {i p : ℕ} {v : A} {u u1 x1 : ℕ} (s : Begun g life taken b b1 i p v u u1 x1) where
  sound : GapsSound g
  sound = s.held.sound

  hi : i < line_count g
  hi = (line_there g sound b.lines i s.there).0

  hn : place_count g ≤ length b.lines
  hn = (line_there g sound b.lines i s.there).1

  hr : i / g.size < g.regions
  hr = line_region g sound i hi

  first_is : b1 ≡ record { lines = set b.lines (gap_place g i) v; taken = b.taken + 1; life = b.life }
  first_is =
      s.wrote.array
      ∙ next_accepted b (Write p v) s.wrote.answer.0
      ∙ ap (λ y. record { lines = set b.lines y v; taken = b.taken + 1; life = b.life }) s.place

  lines1 : b1.lines ≡ set b.lines (gap_place g i) v
  lines1 = ap (λ (y : Array A). y.lines) first_is

  taken1 : b1.taken ≡ b.taken + 1
  taken1 = ap (λ (y : Array A). y.taken) first_is

  life1 : b1.life ≡ b.life
  life1 = ap (λ (y : Array A). y.life) first_is

  length1 : length b1.lines ≡ length b.lines
  length1 = ap length lines1 ∙ length-set b.lines (gap_place g i) v

  hn1 : place_count g ≤ length b1.lines
  hn1 = let n1 = length1 in let n0 = hn in omega arith

  lines_first : gap_lines g b1.lines ≡ set (gap_lines g b.lines) i v
  lines_first = ap (λ y. gap_lines g y) lines1 ∙ lines_set g sound b.lines i hi hn v

  -- what the layer means afterwards, by its lines and its life
  written : (g' : Gaps) (b' : Array A) (u' x' : ℕ) → gap_lines g' b'.lines ≡ set (gap_lines g b.lines) i v
      → gap_life g' life (taken + 1) (left b') ≡ gap_life g life taken (left b) → u < u' → x' ≡ (u' - u) % 2 ^ 64
      → Wrote (gap_array g life taken b) u i v (gap_array g' life (taken + 1) b') u' (Ok x')
  written g' b' u' x' lines_are life_is more toll =
      wrote_accepted _ u i v _ u' x' s.there s.lives
      (ap (λ y. record { lines = y; taken = taken + 1; life = gap_life g' life (taken + 1) (left b') }) lines_are
      ∙ ap (λ y. record { lines = set (gap_lines g b.lines) i v; taken = taken + 1; life = y }) life_is)
      more toll

  -- only counted
  module _ {g' : Gaps} (turned : g' ≡ after_write g i) (d : (row_at g (i / g.size)).due + 1 ≢ g.interval) where
    less : (row_at g (i / g.size)).due + 1 < g.interval
    less = let q = sound.dues (i / g.size) hr in omega (arith, d)

    counted_is : g' ≡ with_row g (i / g.size) (row_counted (row_at g (i / g.size))) g.copies
    counted_is = turned ∙ (write_counts g i d).0

    pub counted_wrote : (x' : ℕ) → x' ≡ (x1 + 0) % 2 ^ 64 → Wrote (gap_array g life taken b) u i v (gap_array g' life (taken + 1) b1) u1 (Ok x')
    counted_wrote x' e =
        let l = write_paid g life taken s.held b s.lives in
        let l0 = l.0 in
        let l1 = l.1 in
        let l2 = l.2 in
        let t1 = taken1 in
        let f1 = life1 in
        let a1 = s.wrote.answer.1.0 in
        let c1 = s.wrote.answer.1.1 in
        let m1 = (paid_below life taken (life + life / g.interval) (taken + g.copies + left b) s.lives).1 in
        written g' b1 u1 x'
        (ap (λ y. gap_lines y b1.lines) counted_is ∙ lines_counted g sound b1.lines i hi hn1 less ∙ lines_first)
        (ap (λ y. gap_life y life (taken + 1) (left b1)) counted_is
        ∙ paid_yes life (taken + 1) (life + life / g.interval) (taken + 1 + g.copies + left b1) (omega arith)
        ∙ sym m1)
        a1 (omega arith)

    -- what is asked below
    pub counted_requests : Write p v ∷ [] ≡ requests (gaps g) (gap_lines g b.lines) (Write i v)
    counted_requests =
        ap (λ y. Write y v ∷ []) s.place
        ∙ ap (λ ks. Write (gap_place g i) v ∷ (reads_of ks ++ writes_of (set (gap_lines g b.lines) i v) v ks)) (sym (write_counts g i d).1)

    pub counted_served : (t t1 : Pile A) → Served t b u (Write p v ∷ []) t1 u1
        → Served (over (gaps g) b u t) (gap_array g life taken b) u (Write i v ∷ []) (over (gaps g') b1 u1 t1) u1
    counted_served t t1 served =
        layer_accepted (gaps g) (gaps g') b b1 u u1 t t1 (gap_array g life taken b) (Write i v) (accepts_write _ i v s.there s.lives) (ap (λ y. gaps y) turned)
        (subst (λ q. Asked b u t q b1 u1 t1) counted_requests (asked_write b b1 u u1 t t1 p v x1 s.wrote served))

  -- the move: its copy is never denied
  module _ {step : Move} (due : IsDue g (i / g.size) step) where
    pub from_there : step.from < length b1.lines
    from_there = let e = due.from in let q = copy_from_below g sound (i / g.size) hr in let n1 = hn1 in omega arith

    pub move_accepted : (x : A) → denied_by b1 (Write step.to x) ≡ None
    move_accepted x =
        let l = write_paid g life taken s.held b s.lives in
        let l0 = l.0 in
        let l1 = l.1 in
        let l2 = move_paid g life taken s.held b i s.there s.lives due.due in
        let t1 = taken1 in
        let f1 = life1 in
        let n1 = hn1 in
        let e = due.to in
        let q = copy_to_below g sound (i / g.size) hr in
        accepts_write b1 step.to x (omega arith) (omega arith)

  module _ {step : Move} {b2 : Array A} {x : A} {u2 x2 : ℕ} (m : Copied g (i / g.size) step b1 b2 x u1 u2 x2) {g' : Gaps} (turned : g' ≡ after_write g i) where
    second_is : b2 ≡ record { lines = set b1.lines (region_copy g (i / g.size)).to x; taken = b1.taken + 1; life = b1.life }
    second_is =
        m.wrote.array
        ∙ next_accepted b1 (Write step.to x) m.wrote.answer.0
        ∙ ap (λ y. record { lines = set b1.lines y x; taken = b1.taken + 1; life = b1.life }) m.due.to

    value_is : (y : A) → x ≡ get_or b1.lines (region_copy g (i / g.size)).from y
    value_is y = fetched_is b1.lines step.from x y (from_there m.due) m.read ∙ ap (λ z. get_or b1.lines z y) m.due.from

    moved_is : g' ≡ with_row g (i / g.size) (row_moved g.size (row_at g (i / g.size))) (g.copies + 1)
    moved_is = turned ∙ (write_moves g i m.due.due).0

    pub moved_wrote : (x' : ℕ) → x' ≡ (x1 + x2) % 2 ^ 64 → Wrote (gap_array g life taken b) u i v (gap_array g' life (taken + 1) b2) u2 (Ok x')
    moved_wrote x' e =
        let l = write_paid g life taken s.held b s.lives in
        let l0 = l.0 in
        let l1 = l.1 in
        let l2 = move_paid g life taken s.held b i s.there s.lives m.due.due in
        let t1 = taken1 in
        let f1 = life1 in
        let t2 : b2.taken ≡ b1.taken + 1 = ap (λ (y : Array A). y.taken) second_is in
        let f2 : b2.life ≡ b1.life = ap (λ (y : Array A). y.life) second_is in
        let a1 = s.wrote.answer.1.0 in
        let c1 = s.wrote.answer.1.1 in
        let a2 = m.wrote.answer.1.0 in
        let c2 = m.wrote.answer.1.1 in
        let m1 = (paid_below life taken (life + life / g.interval) (taken + g.copies + left b) s.lives).1 in
        written g' b2 u2 x'
        (ap (λ y. gap_lines y b2.lines) moved_is
        ∙ ap (λ (y : Array A). gap_lines (with_row g (i / g.size) (row_moved g.size (row_at g (i / g.size))) (g.copies + 1)) y.lines) second_is
        ∙ lines_moved g sound b1.lines i hi hn1 (g.copies + 1) x value_is
        ∙ lines_first)
        (ap (λ y. gap_life y life (taken + 1) (left b2)) moved_is
        ∙ paid_yes life (taken + 1) (life + life / g.interval) (taken + 1 + (g.copies + 1) + left b2) (omega arith)
        ∙ sym m1)
        (omega arith) (omega arith)

    pub moved_requests : Write p v ∷ (Read step.from ∷ (Write step.to x ∷ [])) ≡ requests (gaps g) (gap_lines g b.lines) (Write i v)
    moved_requests =
        let from = (region_copy g (i / g.size)).from in
        let to = (region_copy g (i / g.size)).to in
        let val : x ≡ get_or (set (gap_lines g b.lines) i v) (region_copy g (i / g.size)).moved v =
        line_moved g sound b.lines i hi hn v x (value_is v ∙ ap (λ y. get_or y from v) lines1) in
        ap (λ y. Write y v ∷ (Read step.from ∷ (Write step.to x ∷ []))) s.place
        ∙ ap (λ y. Write (gap_place g i) v ∷ (Read y ∷ (Write step.to x ∷ []))) m.due.from
        ∙ ap (λ y. Write (gap_place g i) v ∷ (Read from ∷ (Write y x ∷ []))) m.due.to
        ∙ ap (λ y. Write (gap_place g i) v ∷ (Read from ∷ (Write to y ∷ []))) val
        ∙ ap (λ ks. Write (gap_place g i) v ∷ (reads_of ks ++ writes_of (set (gap_lines g b.lines) i v) v ks)) (sym (write_moves g i m.due.due).1)

    pub moved_served : (t t1 t2 : Pile A) → Served t b u (Write p v ∷ []) t1 u1 → Served t1 b1 u1 (Read step.from ∷ []) t1 u1
        → Served t1 b1 u1 (Write step.to x ∷ []) t2 u2
        → Served (over (gaps g) b u t) (gap_array g life taken b) u (Write i v ∷ []) (over (gaps g') b2 u2 t2) u2
    moved_served t t1 t2 s1 sr s2 =
        let asked =
        asked_more b b1 b2 u u1 u2 t t1 t2 (Write p v ∷ []) (Read step.from ∷ (Write step.to x ∷ [])) (asked_write b b1 u u1 t t1 p v x1 s.wrote s1)
        (asked_more b1 b1 b2 u1 u1 u2 t1 t1 t2 (Read step.from ∷ []) (Write step.to x ∷ []) (asked_read b1 u1 t1 step.from (from_there m.due) sr) (asked_write b1 b2 u1 u2 t1 t2 step.to x x2 m.wrote s2)) in
        layer_accepted (gaps g) (gaps g') b b2 u u2 t t2 (gap_array g life taken b) (Write i v) (accepts_write _ i v s.there s.lives) (ap (λ y. gaps y) turned)
        (subst (λ q. Asked b u t q b2 u2 t2) moved_requests asked)
