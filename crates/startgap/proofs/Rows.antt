-- One region. An offset rotated by the start is offset + start, less K where that passes K; so places, lines and moves are sums and
-- differences with a handful of cases, and every law of one region is linear arithmetic once those cases are split.
use Rattle.std.proofs.Common.{◌≡◌, ℕ, ◌+◌, ◌-◌, ◌%◌, ◌<◌, ◌≤◌, cond, ltb, ◌≢◌, ◌⊎◌, Some, None, sym, refl, ap, ◌∙◌, inl, inr, ⊎_elim, mod-eq_of_lt, arith}
use native.Mathlib.Nat.{mod-eq-sub-mod}
use Rattle.std.proofs.lemmas.Bool.{cases_lt, lt-ltb, le-ltb, le-leb, lt-leb, eq-eqb, ne_eqb}
use Rattle.startgap.specs.declared.row.Row.{Row}
use Rattle.startgap.specs.Rows.{RowSound, rotated, row_place, row_line, row_holder, row_from, row_next, row_counted, row_moved, row_after}
use Rattle.startgap.specs.Theorems.{Mapping}

-- below twice the modulus
pub wrap : (x K : ℕ) → x < K + K → ((x < K) × (x % K ≡ x)) ⊎ ((K ≤ x) × (x % K ≡ x - K))
wrap x K h = ⊎_elim
    (λ (l : x < K). inl (l, mod-eq_of_lt l))
    (λ (l : K ≤ x). let m : x - K < K = omega arith in inr (l, mod-eq-sub-mod l ∙ mod-eq_of_lt m))
    (cases_lt x K)

pub if_lt : {X : Type 0} (a b : ℕ) (x y : X) → ((a < b) × (cond (ltb a b) x y ≡ x)) ⊎ ((b ≤ a) × (cond (ltb a b) x y ≡ y))
if_lt a b x y = ⊎_elim (λ l. inl (l, ap (λ t. cond t x y) (lt-ltb a b l))) (λ l. inr (l, ap (λ t. cond t x y) (le-ltb a b l))) (cases_lt a b)

-- ---- the definitions, at each of their tests
pub place_low : (K : ℕ) (w : Row) (offset : ℕ) → rotated K w offset < w.gap → row_place K w offset ≡ rotated K w offset
unfolding row_place
place_low K w o h = ap (λ b. cond b (rotated K w o) (rotated K w o + 1)) (lt-ltb _ _ h)

pub place_high : (K : ℕ) (w : Row) (offset : ℕ) → w.gap ≤ rotated K w offset → row_place K w offset ≡ rotated K w offset + 1
unfolding row_place
place_high K w o h = ap (λ b. cond b (rotated K w o) (rotated K w o + 1)) (le-ltb _ _ h)

pub holder_none : (K : ℕ) (w : Row) (place : ℕ) → place ≡ w.gap → row_holder K w place ≡ None
unfolding row_holder
holder_none K w p e = ap (λ b. cond b None (Some (row_line K w p))) (eq-eqb p w.gap e)

pub holder_some : (K : ℕ) (w : Row) (place : ℕ) → place ≢ w.gap → row_holder K w place ≡ Some (row_line K w place)
unfolding row_holder
holder_some K w p ne = ap (λ b. cond b None (Some (row_line K w p))) (ne_eqb p w.gap ne)

pub line_low : (K : ℕ) (w : Row) (place : ℕ) → place < w.gap → row_line K w place ≡ (place + (K - w.start)) % K
unfolding row_line
line_low K w p h = ap (λ b. (cond b p (p - 1) + (K - w.start)) % K) (lt-ltb _ _ h)

pub line_high : (K : ℕ) (w : Row) (place : ℕ) → w.gap ≤ place → row_line K w place ≡ (place - 1 + (K - w.start)) % K
unfolding row_line
line_high K w p h = ap (λ b. (cond b p (p - 1) + (K - w.start)) % K) (le-ltb _ _ h)

pub from_high : (K : ℕ) (w : Row) → 0 < w.gap → row_from K w ≡ w.gap - 1
unfolding row_from
from_high K w h = ap (λ b. cond b (w.gap - 1) K) (lt-ltb 0 w.gap h)

pub from_zero : (K : ℕ) (w : Row) → w.gap ≤ 0 → row_from K w ≡ K
unfolding row_from
from_zero K w h = ap (λ b. cond b (w.gap - 1) K) (le-ltb 0 w.gap h)

pub moved_high : (K : ℕ) (w : Row) → 0 < w.gap → row_moved K w ≡ record { start = w.start; gap = w.gap - 1; due = 0 }
unfolding row_moved row_from
moved_high K w h = ap (λ b. record { start = cond b w.start ((w.start + 1) % K); gap = cond b (w.gap - 1) K; due = 0 }) (lt-ltb 0 w.gap h)

pub moved_zero : (K : ℕ) (w : Row) → w.gap ≤ 0 → row_moved K w ≡ record { start = (w.start + 1) % K; gap = K; due = 0 }
unfolding row_moved row_from
moved_zero K w h = ap (λ b. record { start = cond b w.start ((w.start + 1) % K); gap = cond b (w.gap - 1) K; due = 0 }) (le-ltb 0 w.gap h)

pub moved_gap : (K : ℕ) (w : Row) → (row_moved K w).gap ≡ row_from K w
unfolding row_moved
moved_gap K w = refl

pub moved_due : (K : ℕ) (w : Row) → (row_moved K w).due ≡ 0
unfolding row_moved
moved_due K w = refl

pub after_counts : (K interval : ℕ) (w : Row) → w.due + 1 ≢ interval → row_after K interval w ≡ row_counted w
after_counts K interval w ne = ap (λ b. cond b (row_moved K w) (row_counted w)) (ne_eqb _ _ ne)

pub after_moves : (K interval : ℕ) (w : Row) → w.due + 1 ≡ interval → row_after K interval w ≡ row_moved K w
after_moves K interval w e = ap (λ b. cond b (row_moved K w) (row_counted w)) (eq-eqb _ _ e)

-- a write that is only counted changes neither places nor lines
pub counted_place : (K : ℕ) (w : Row) (offset : ℕ) → row_place K (row_counted w) offset ≡ row_place K w offset
unfolding row_place
counted_place K w o = refl

pub counted_line : (K : ℕ) (w : Row) (place : ℕ) → row_line K (row_counted w) place ≡ row_line K w place
unfolding row_line
counted_line K w p = refl

pub counted_holder : (K : ℕ) (w : Row) (place : ℕ) → row_holder K (row_counted w) place ≡ row_holder K w place
unfolding row_holder row_line
counted_holder K w p = refl

pub counted_from : (K : ℕ) (w : Row) → row_from K (row_counted w) ≡ row_from K w
unfolding row_from
counted_from K w = refl

-- ---- the mapping as a relation
-- q is the offset, rotated by the start
abbrev pub Rotates : ℕ → Row → ℕ → ℕ → Type 0
Rotates K w offset q =
    ((offset + w.start < K) × (q ≡ offset + w.start)) ⊎ ((K ≤ offset + w.start) × (q + K ≡ offset + w.start))

-- the place is q, or one more from the gap on
abbrev pub Skips : Row → ℕ → ℕ → Type 0
Skips w q place = ((q < w.gap) × (place ≡ q)) ⊎ ((w.gap ≤ q) × (place ≡ q + 1))

-- ---- a sound row of K lines
module _ (K : ℕ) (w : Row) (s : RowSound K w) where
  -- the place of an offset, by the offset rotated
  pub place_is : (offset : ℕ) → offset < K → (q : ℕ) × Rotates K w offset q × Skips w q (row_place K w offset)
  unfolding row_place
  place_is o h =
      let hs = s.0 in (
        rotated K w o,
        ⊎_elim (λ a. inl (a.0, a.1)) (λ a. let a0 = a.0 in let a1 = a.1 in inr (a0, omega arith)) (wrap (o + w.start) K (omega arith)),
        if_lt (rotated K w o) w.gap _ _,
      )

  pub place_below : (offset : ℕ) → offset < K → row_place K w offset < K + 1
  place_below o h = let hs = s.0 in let hg = s.1 in let p = place_is o h in let a = p.1 in let b = p.2 in omega arith

  pub place_not_gap : (offset : ℕ) → offset < K → row_place K w offset ≢ w.gap
  place_not_gap o h e = let hs = s.0 in let hg = s.1 in let p = place_is o h in let a = p.1 in let b = p.2 in omega arith

  pub place_apart : (o o' : ℕ) → o < K → o' < K → row_place K w o ≡ row_place K w o' → o ≡ o'
  place_apart o o' h h' e =
      let hs = s.0 in let hg = s.1 in
      let p = place_is o h in let a = p.1 in let b = p.2 in
      let p' = place_is o' h' in let a' = p'.1 in let b' = p'.2 in
      omega arith

  -- the line at a place that is not the gap, by its offset rotated
  pub line_is : (place : ℕ) → place < K + 1 → place ≢ w.gap
      → (q : ℕ) × Skips w q place × Rotates K w (row_line K w place) q × (row_line K w place < K)
  unfolding row_line
  line_is p h ne =
      let hs = s.0 in let hg = s.1 in
      let q = cond (ltb p w.gap) p (p - 1) in
      let above : w.gap ≤ p → w.gap < p = λ l. omega (arith, ne) in
      let skips : Skips w q p =
      ⊎_elim
      (λ a. let a0 = a.0 in let a1 = a.1 in inl (omega arith, omega arith))
      (λ a. let a0 = above a.0 in let a1 = a.1 in inr (omega arith, omega arith))
      (if_lt p w.gap p (p - 1)) in
      let low : q < K = omega arith in
      let wr = wrap (q + (K - w.start)) K (omega arith) in (
        q,
        skips,
        ⊎_elim (λ a. let a0 = a.0 in let a1 = a.1 in inr (omega arith, omega arith)) (λ a. let a0 = a.0 in let a1 = a.1 in inl (omega arith, omega arith)) wr,
        ⊎_elim (λ a. let a0 = a.0 in let a1 = a.1 in omega arith) (λ a. let a0 = a.0 in let a1 = a.1 in omega arith) wr,
      )

  pub line_below : (place : ℕ) → place < K + 1 → place ≢ w.gap → row_line K w place < K
  line_below p h ne = (line_is p h ne).3

  pub place_of_line : (place : ℕ) → place < K + 1 → place ≢ w.gap → row_place K w (row_line K w place) ≡ place
  place_of_line p h ne =
      let hs = s.0 in let hg = s.1 in
      let l = line_is p h ne in let l1 = l.1 in let l2 = l.2 in let l3 = l.3 in
      let q = place_is (row_line K w p) l3 in let a = q.1 in let b = q.2 in
      omega arith

  pub line_of_place : (offset : ℕ) → offset < K → row_line K w (row_place K w offset) ≡ offset
  line_of_place o h =
      let b = place_below o h in
      let ne = place_not_gap o h in
      place_apart (row_line K w (row_place K w o)) o (line_below (row_place K w o) b ne) h (place_of_line (row_place K w o) b ne)

  -- ---- the place that a move reads
  pub from_is : ((0 < w.gap) × (row_from K w + 1 ≡ w.gap)) ⊎ ((w.gap ≡ 0) × (row_from K w ≡ K))
  from_is = ⊎_elim
      (λ (h : 0 < w.gap). let e = from_high K w h in inl (h, omega arith))
      (λ (h : w.gap ≤ 0). inr (omega arith, from_zero K w h))
      (cases_lt 0 w.gap)

  pub from_below : row_from K w < K + 1
  from_below = let hg = s.1 in let f = from_is in omega arith

  pub from_not_gap : row_from K w ≢ w.gap
  from_not_gap e = let hs = s.0 in let f = from_is in omega arith

  -- ---- the line that a move moves
  pub moved_below : row_next K w < K
  moved_below = line_below (row_from K w) from_below from_not_gap

  pub moved_from : row_place K w (row_next K w) ≡ row_from K w
  moved_from = place_of_line (row_from K w) from_below from_not_gap

  -- ---- the row after a move
  pub moved_start :
      ((0 < w.gap) × ((row_moved K w).start ≡ w.start))
      ⊎ ((w.gap ≡ 0) × (((w.start + 1 < K) × ((row_moved K w).start ≡ w.start + 1)) ⊎ ((w.start + 1 ≡ K) × ((row_moved K w).start ≡ 0))))
  moved_start =
      let hs = s.0 in
      ⊎_elim
      (λ (h : 0 < w.gap). inl (h, ap (λ (r : Row). r.start) (moved_high K w h)))
      (λ (h : w.gap ≤ 0).
      let e : (row_moved K w).start ≡ (w.start + 1) % K = ap (λ (r : Row). r.start) (moved_zero K w h) in
      let next = wrap (w.start + 1) K (omega arith) in
      inr (
        omega arith,
        ⊎_elim
            (λ k. let k0 = k.0 in let k1 = k.1 in inl (k0, omega arith))
            (λ k. let k0 = k.0 in let k1 = k.1 in inr (omega arith, omega arith))
            next,
      ))
      (cases_lt 0 w.gap)

  pub moved_sound : RowSound K (row_moved K w)
  moved_sound =
      let hs = s.0 in let hg = s.1 in let m = moved_start in let f = from_is in let e = moved_gap K w in
      (omega arith, omega arith)

-- ---- what a move changes
module _ (K : ℕ) (w : Row) (s : RowSound K w) where
  pub moved_arrives : row_place K (row_moved K w) (row_next K w) ≡ w.gap
  moved_arrives =
      let hs = s.0 in let hg = s.1 in
      let l = line_is K w s (row_from K w) (from_below K w s) (from_not_gap K w s) in let l1 = l.1 in let l2 = l.2 in let l3 = l.3 in
      let f = from_is K w s in
      let m = moved_start K w s in
      let g = moved_gap K w in
      let p = place_is K (row_moved K w) (moved_sound K w s) (row_next K w) l3 in let a = p.1 in let b = p.2 in
      omega arith

  pub others_stay : (offset : ℕ) → offset < K → offset ≢ row_next K w → row_place K (row_moved K w) offset ≡ row_place K w offset
  others_stay o h ne =
      let hs = s.0 in let hg = s.1 in
      let l = line_is K w s (row_from K w) (from_below K w s) (from_not_gap K w s) in let l1 = l.1 in let l2 = l.2 in let l3 = l.3 in
      let f = from_is K w s in
      let m = moved_start K w s in
      let g = moved_gap K w in
      let p = place_is K (row_moved K w) (moved_sound K w s) o h in let a = p.1 in let b = p.2 in
      let q = place_is K w s o h in let c = q.1 in let d = q.2 in
      omega arith

  -- the next move moves the line before, and writes the place before
  pub next_line : (row_next K (row_moved K w) + 1 ≡ row_next K w) ⊎ ((row_next K w ≡ 0) × (row_next K (row_moved K w) + 1 ≡ K))
  next_line =
      let hs = s.0 in let hg = s.1 in
      let l = line_is K w s (row_from K w) (from_below K w s) (from_not_gap K w s) in let l1 = l.1 in let l2 = l.2 in let l3 = l.3 in
      let f = from_is K w s in
      let m = moved_start K w s in
      let g = moved_gap K w in
      let s' = moved_sound K w s in
      let f' = from_is K (row_moved K w) s' in
      let k = line_is K (row_moved K w) s' (row_from K (row_moved K w)) (from_below K (row_moved K w) s') (from_not_gap K (row_moved K w) s') in
      let k1 = k.1 in let k2 = k.2 in let k3 = k.3 in
      let H = row_next K w in
      ⊎_elim (λ (z : 0 < H). inl (omega arith)) (λ (z : H ≤ 0). inr (omega arith, omega arith)) (cases_lt 0 H)

  pub next_gap : ((row_moved K w).gap + 1 ≡ w.gap) ⊎ ((w.gap ≡ 0) × ((row_moved K w).gap + 1 ≡ K + 1))
  next_gap =
      let e = moved_gap K w in
      ⊎_elim (λ x. let x1 = x.1 in inl (omega arith)) (λ x. let x0 = x.0 in let x1 = x.1 in inr (x0, omega arith)) (from_is K w s)

-- ---- the test by the gap, the other way round
pub mapping : Mapping
unfolding row_place
mapping K w offset =
    let q = rotated K w offset in
    ⊎_elim
    (λ (h : q < w.gap). place_low K w offset h ∙ sym (ap (λ b. cond b (q + 1) q) (lt-leb w.gap q h)))
    (λ (h : w.gap ≤ q). place_high K w offset h ∙ sym (ap (λ b. cond b (q + 1) q) (le-leb w.gap q h)))
    (cases_lt q w.gap)
