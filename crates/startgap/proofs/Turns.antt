-- Evenness. A region's moves go round: the line moved next is the one before the last, and the place written next is the one before the
-- last, each from 0 to the top. Count the turns as if those above the first in turn had had one already: then at any moment all up to the
-- one whose turn it is have had B turns, and those above it B + 1. One induction serves lines and places; what was counted too much
-- comes off at the end, and leaves counts that differ by at most one.
use Rattle.std.proofs.Common.{◌≡◌, ℕ, ◌+◌, ◌*◌, ◌/◌, ◌%◌, ◌<◌, ◌≤◌, cond, ltb, ◌≢◌, ◌⊎◌, List, [], ◌∷◌, ◌++◌, sym, refl, ap, ◌∙◌, subst, inl, inr, ⊎_elim, mod-lt, arith}
use lib.Arith.{digits_div}
use Rattle.std.proofs.lemmas.Bool.{cases_lt, cases_eq}
use Rattle.startgap.specs.declared.row.Row.{Row}
use Rattle.line.specs.Copies.{Copy, times, times_moved, times_into}
use Rattle.startgap.specs.Rows.{RowSound, row_line, row_from, row_next, row_counted, row_moved}
use Rattle.startgap.specs.Regions.{Gaps, GapsSound, row_at, line_count, region_copy, write_copies, after_write, AllLines, gaps_after, gaps_copies}
use Rattle.startgap.specs.Theorems.{Evenness}
use Rattle.startgap.proofs.Rows.{if_lt, moved_below, next_line, next_gap, counted_line, counted_from}
use Rattle.startgap.proofs.Regions.{split, line_region}
use Rattle.startgap.proofs.Writes.{write_counts, write_moves, write_sound, RowChange, moves, counts, stays, row_change}
use Rattle.startgap.proofs.Runs.{times_append, times_one}

-- ---- turns that go round below n: it is p's turn, and c counts the turns taken
abbrev pub InTurn : ℕ → ℕ → (ℕ → ℕ) → Type 0
InTurn n p c = (B : ℕ) × ((j : ℕ) → j < n → ((j ≤ p) × (c j ≡ B)) ⊎ ((p < j) × (c j ≡ B + 1)))

-- the first count, with p first in turn
abbrev pub ahead : ℕ → ℕ → ℕ
ahead p j = cond (ltb p j) 1 0

pub in_turn_first : (n p : ℕ) → InTurn n p (ahead p)
in_turn_first n p = (0, λ j hj. ⊎_elim (λ x. inr (x.0, x.1)) (λ x. inl (x.0, x.1)) (if_lt p j 1 0))

-- the turns since then differ by at most one
pub in_turn_even : (n first p : ℕ) (c : ℕ → ℕ) → InTurn n p (λ j. ahead first j + c j) → (i j : ℕ) → i < n → j < n → c i ≤ c j + 1
in_turn_even n first p c t i j hi hj =
    let a = t.1 i hi in
    let b = t.1 j hj in
    let u = if_lt {X = ℕ} first i 1 0 in
    let v = if_lt {X = ℕ} first j 1 0 in
    omega arith

pub in_turn_same : (n p p' : ℕ) (c c' : ℕ → ℕ) → p' ≡ p → ((j : ℕ) → j < n → c' j ≡ c j) → InTurn n p c → InTurn n p' c'
in_turn_same n p p' c c' e s t = (
  t.0,
  λ j hj. let b = s j hj in
      ⊎_elim (λ x. let x0 = x.0 in let x1 = x.1 in inl (omega arith, omega arith)) (λ x. let x0 = x.0 in let x1 = x.1 in inr (omega arith, omega arith)) (t.1 j hj),
)

-- how j's count stood, and whether the turn was its own
abbrev Stood : ℕ → ℕ → ℕ → ℕ → Type 0
Stood p j c B = ((j ≤ p) × (c ≡ B)) ⊎ ((p < j) × (c ≡ B + 1))

abbrev Own : ℕ → ℕ → ℕ → ℕ → Type 0
Own p j c c' = ((j ≡ p) × (c' ≡ c + 1)) ⊎ ((j ≢ p) × (c' ≡ c))

above : (p p' j c c' B : ℕ) → p' + 1 ≡ p → p' < j → Stood p j c B → Own p j c c' → c' ≡ B + 1
above p p' j c c' B e q (inl a) (inl b) = let a1 = a.1 in let b1 = b.1 in omega arith
above p p' j c c' B e q (inl a) (inr b) = let a0 = a.0 in let b0 = b.0 in absurd (b0 (omega arith))
above p p' j c c' B e q (inr a) (inl b) = let a0 = a.0 in let b0 = b.0 in absurd (omega arith)
above p p' j c c' B e q (inr a) (inr b) = b.1 ∙ a.1

up_to : (p p' j c c' B : ℕ) → p' + 1 ≡ p → j ≤ p' → Stood p j c B → Own p j c c' → c' ≡ B
up_to p p' j c c' B e q (inl a) (inl b) = let b0 = b.0 in absurd (omega arith)
up_to p p' j c c' B e q (inl a) (inr b) = b.1 ∙ a.1
up_to p p' j c c' B e q (inr a) b = let a0 = a.0 in absurd (omega arith)

round : (p j c c' B : ℕ) → p ≡ 0 → Stood p j c B → Own p j c c' → c' ≡ B + 1
round p j c c' B e (inl a) (inl b) = let a1 = a.1 in let b1 = b.1 in omega arith
round p j c c' B e (inl a) (inr b) = let a0 = a.0 in absurd (b.0 (omega arith))
round p j c c' B e (inr a) (inl b) = let a0 = a.0 in let b0 = b.0 in absurd (omega arith)
round p j c c' B e (inr a) (inr b) = b.1 ∙ a.1

-- p takes its turn, and it is the turn of the one before; after 0 of the top
pub in_turn_next : (n p p' : ℕ) (c c' : ℕ → ℕ) → (p' + 1 ≡ p) ⊎ ((p ≡ 0) × (p' + 1 ≡ n)) → ((j : ℕ) → j < n → Own p j (c j) (c' j)) → InTurn n p c
    → InTurn n p' c'
in_turn_next n p p' c c' m s t = ⊎_elim
    (λ (e : p' + 1 ≡ p). (
      t.0,
      λ j hj. let a = t.1 j hj in let b = s j hj in
          ⊎_elim (λ (q : p' < j). inr (q, above p p' j (c j) (c' j) t.0 e q a b)) (λ (q : j ≤ p'). inl (q, up_to p p' j (c j) (c' j) t.0 e q a b)) (cases_lt p' j),
    ))
    (λ e. (t.0 + 1, λ j hj. let a = t.1 j hj in let b = s j hj in let e0 = e.0 in let e1 = e.1 in inl (omega arith, round p j (c j) (c' j) t.0 e0 a b)))
    m

-- ---- the turns of one region
-- `part` is what a copy counts for, `turn` whose turn it is by the row, and `width` how many take turns
module _ (width : ℕ → ℕ) (part : Copy → ℕ) (turn : ℕ → Row → ℕ)
    (counted : (K : ℕ) (w : Row) → turn K (row_counted w) ≡ turn K w)
    (inside : (K : ℕ) (w : Row) → RowSound K w → turn K w < width K)
    (hits : (g : Gaps) (region : ℕ) → part (region_copy g region) ≡ region * width g.size + turn g.size (row_at g region))
    (steps : (K : ℕ) (w : Row) → RowSound K w → (turn K (row_moved K w) + 1 ≡ turn K w) ⊎ ((turn K w ≡ 0) × (turn K (row_moved K w) + 1 ≡ width K)))
    (region : ℕ) where
  -- how often j of the region has had its turn
  abbrev turns : Gaps → ℕ → List Copy → ℕ
  turns g j copies = times part (region * width g.size + j) copies

  -- a copy of the region itself, and one of another
  hit_here : (g : Gaps) (c : ℕ → ℕ) (j : ℕ) → Own (turn g.size (row_at g region)) j (c j) (c j + turns g j (region_copy g region ∷ []))
  hit_here g c j =
      let n = width g.size in
      let p = turn g.size (row_at g region) in
      let e = hits g region in
      ⊎_elim
      (λ x. let x0 = x.0 in let x1 = x.1 in inl (omega arith, omega arith))
      (λ x. let x1 = x.1 in inr (λ q. x.0 (e ∙ ap (λ y. region * n + y) (sym q)), omega arith))
      (times_one part (region * n + j) (region_copy g region))

  hit_there : (g : Gaps) → GapsSound g → (other : ℕ) → other < g.regions → region ≢ other → (j : ℕ) → j < width g.size
      → turns g j (region_copy g other ∷ []) ≡ 0
  hit_there g s other r ne j hj =
      let n = width g.size in
      ⊎_elim
      (λ x. absurd (ne (sym (digits_div region hj) ∙ ap (λ y. y / n) (sym x.0 ∙ hits g other) ∙ digits_div other (inside g.size (row_at g other) (s.rows other r)))))
      (λ x. x.1)
      (times_one part (region * n + j) (region_copy g other))

  none_there : (g : Gaps) → GapsSound g → (line : ℕ) → line < line_count g → region ≢ line / g.size → (j : ℕ) → j < width g.size
      → turns g j (write_copies g line) ≡ 0
  none_there g s line h ne j hj = ⊎_elim
      (λ (d : (row_at g (line / g.size)).due + 1 ≡ g.interval). ap (turns g j) (write_moves g line d).1 ∙ hit_there g s (line / g.size) (line_region g s line h) ne j hj)
      (λ (d : (row_at g (line / g.size)).due + 1 ≢ g.interval). ap (turns g j) (write_counts g line d).1)
      (cases_eq ((row_at g (line / g.size)).due + 1) g.interval)

  -- the turns after a write
  change_in_turn : (g : Gaps) → GapsSound g → (line : ℕ) → line < line_count g → (c : ℕ → ℕ) → RowChange g line region
      → InTurn (width g.size) (turn g.size (row_at g region)) c
      → InTurn (width g.size) (turn g.size (row_at (after_write g line) region)) (λ j. c j + turns g j (write_copies g line))
  change_in_turn g s line h c (moves e d w k) t =
      let K = g.size in
      let c' : ℕ → ℕ = λ j. c j + turns g j (write_copies g line) in
      let r = subst (λ x. x < g.regions) (sym e) (line_region g s line h) in
      subst (λ y. InTurn (width K) y c') (sym (ap (turn K) w))
      (in_turn_next (width K) (turn K (row_at g region)) (turn K (row_moved K (row_at g region))) c c' (steps K (row_at g region) (s.rows region r))
      (λ j hj. subst (λ ks. Own (turn K (row_at g region)) j (c j) (c j + turns g j ks)) (sym k) (hit_here g c j)) t)
  change_in_turn g s line h c (counts e w k) t =
      let K = g.size in
      in_turn_same (width K) (turn K (row_at g region)) (turn K (row_at (after_write g line) region)) c (λ j. c j + turns g j (write_copies g line))
      (ap (turn K) w ∙ counted K (row_at g region)) (λ j hj. let z = ap (turns g j) k in omega arith) t
  change_in_turn g s line h c (stays ne w) t =
      let K = g.size in
      in_turn_same (width K) (turn K (row_at g region)) (turn K (row_at (after_write g line) region)) c (λ j. c j + turns g j (write_copies g line))
      (ap (turn K) w) (λ j hj. let z = none_there g s line h ne j hj in omega arith) t

  -- the turns after a succession of writes
  pub after_in_turn : (g : Gaps) → GapsSound g → (lines : List ℕ) → AllLines g lines → (c : ℕ → ℕ)
      → InTurn (width g.size) (turn g.size (row_at g region)) c
      → InTurn (width g.size) (turn g.size (row_at (gaps_after g lines) region)) (λ j. c j + turns g j (gaps_copies g lines))
  unfolding gaps_after gaps_copies after_write
  after_in_turn g s [] a c t =
      let p = turn g.size (row_at g region) in
      in_turn_same (width g.size) p p c (λ j. c j + 0) refl (λ j hj. omega arith) t
  after_in_turn g s (line ∷ lines) a c t =
      let n = width g.size in
      let g' = after_write g line in
      let p = turn g.size (row_at (gaps_after g' lines) region) in
      let rest = gaps_copies g' lines in
      let i = after_in_turn g' (write_sound g s line a.0) lines a.1 (λ j. c j + turns g j (write_copies g line))
      (change_in_turn g s line a.0 c (row_change g s line a.0 region) t) in
      in_turn_same n p p (λ j. c j + turns g j (write_copies g line) + turns g j rest) (λ j. c j + turns g j (write_copies g line ++ rest)) refl
      (λ j hj. let e = times_append part (region * n + j) (write_copies g line) rest in omega arith) i

  pub turns_even : (g : Gaps) → GapsSound g → (lines : List ℕ) → AllLines g lines → (x y : ℕ) → x < width g.size → y < width g.size
      → turns g x (gaps_copies g lines) ≤ turns g y (gaps_copies g lines) + 1
  turns_even g s lines a x y hx hy =
      let n = width g.size in
      let p = turn g.size (row_at g region) in
      in_turn_even n p (turn g.size (row_at (gaps_after g lines) region)) (λ j. turns g j (gaps_copies g lines))
      (after_in_turn g s lines a (ahead p) (in_turn_first n p)) x y hx hy

-- ---- lines and places
counted_next : (K : ℕ) (w : Row) → row_next K (row_counted w) ≡ row_next K w
counted_next K w = counted_line K w (row_from K (row_counted w)) ∙ ap (row_line K w) (counted_from K w)

module _ (g : Gaps) (s : GapsSound g) (lines : List ℕ) (a : AllLines g lines) (region : ℕ) where
  pub even_lines : (x y : ℕ) → x < g.size → y < g.size
      → times_moved (region * g.size + x) (gaps_copies g lines) ≤ times_moved (region * g.size + y) (gaps_copies g lines) + 1
  even_lines x y hx hy = turns_even (λ n. n) (λ k. k.moved) row_next counted_next moved_below (λ h k. refl) next_line region g s lines a x y hx hy

  pub even_places : (x y : ℕ) → x < g.size + 1 → y < g.size + 1
      → times_into (region * (g.size + 1) + x) (gaps_copies g lines) ≤ times_into (region * (g.size + 1) + y) (gaps_copies g lines) + 1
  even_places x y hx hy =
      turns_even (λ n. n + 1) (λ k. k.to) (λ n w. w.gap) (λ n w. refl) (λ n w s. let s1 = s.1 in omega arith) (λ h k. refl) next_gap region g s lines a x y hx hy

pub evenness : Evenness
evenness g s lines a =
    let ks = gaps_copies g lines in
    let K = g.size in
    let P = g.size + 1 in
    let z = s.sized in
    let p : 0 < P = omega arith in
    record {
      lines = λ i j hi hj q.
          let e = even_lines g s lines a (i / K) (i % K) (j % K) (mod-lt i z) (mod-lt j z) in
          let ei = ap (λ x. times_moved x ks) (split K i) in
          let ej = ap (λ x. times_moved x ks) (split K j ∙ ap (λ x. x * K + j % K) (sym q)) in
          omega arith;
      places = λ i j hi hj q.
          let e = even_places g s lines a (i / P) (i % P) (j % P) (mod-lt i p) (mod-lt j p) in
          let ei = ap (λ x. times_into x ks) (split P i) in
          let ej = ap (λ x. times_into x ks) (split P j ∙ ap (λ x. x * P + j % P) (sym q)) in
          omega arith;
    }
