-- Any succession of accepted writes, by induction. With each write copies * interval + the sum of all dues grows by one, since a write
-- adds one to a due, or takes interval - 1 from it and makes a copy; and so for one region, by its own due and its own moves. With each
-- move n of a region, n goes up by one in n = q * (K + 1) + r: the gap K - r comes down, or r begins anew and the start q mod K goes up.
use Rattle.std.proofs.Common.{◌≡◌, ℕ, ◌+◌, ◌-◌, ◌*◌, ◌/◌, ◌%◌, ◌<◌, ◌≤◌, cond, ◌≢◌, ◌⊎◌, List, [], ◌∷◌, ◌++◌, length, sym, refl, ap, ◌∙◌, subst, inl, inr, ⊎_elim, mod-lt, add-mul, div-add-mod', arith}
use native.Mathlib.Nat.{mod-add-mod, zero-mod, zero-div}
use lib.Arith.{digits_div, digits_mod}
use Rattle.std.specs.List.{AllByRecursion}
use Rattle.std.proofs.lemmas.List.{length-append, get_or_append_left, get_or-append_right}
use Rattle.std.proofs.ByRecursion.{All-get_or}
use Rattle.std.proofs.lemmas.Bool.{cases_lt, cases_eq, eq-eqb, ne_eqb}
use Rattle.startgap.specs.declared.row.Row.{Row}
use Rattle.line.specs.Copies.{Copy, no_copy, times}
use Rattle.startgap.specs.Rows.{new_row, row_counted, row_moved}
use Rattle.startgap.specs.Regions.{Gaps, GapsSound, new_gaps, row_at, line_count, region_copy, write_copies, after_write, AllLines, gaps_after, gaps_copies, total_due, writes_in, moves_in}
use Rattle.startgap.specs.Theorems.{Fit, Carries, CarriedAt, CopiesCarry, row_after_writes, Registers}
use Rattle.startgap.proofs.Rows.{moved_due, moved_high, moved_zero}
use Rattle.startgap.proofs.Regions.{line_region, gap_region, new_row_at, new_sound, new_in_order}
use Rattle.startgap.proofs.Writes.{total_due_set, copy_carries, write_counts, write_moves, line_low, write_sound, RowChange, moves, counts, stays, row_change}

-- ---- counting
pub times_append : {X : Type 0} (part : X → ℕ) (n : ℕ) (xs ys : List X) → times part n (xs ++ ys) ≡ times part n xs + times part n ys
times_append part n [] ys = omega arith
times_append part n (x ∷ xs) ys = let h = times_append part n xs ys in omega arith

-- one element has n as its part, or not
pub times_one : {X : Type 0} (part : X → ℕ) (n : ℕ) (x : X)
    → ((part x ≡ n) × (times part n (x ∷ []) ≡ 1)) ⊎ ((part x ≢ n) × (times part n (x ∷ []) ≡ 0))
times_one part n x = ⊎_elim
    (λ (e : part x ≡ n). inl (e, ap (λ b. cond b 1 0 + 0) (eq-eqb (part x) n e)))
    (λ (ne : part x ≢ n). inr (ne, ap (λ b. cond b 1 0 + 0) (ne_eqb (part x) n ne)))
    (cases_eq (part x) n)

-- ---- the settings stay
pub write_regions : (g : Gaps) (line : ℕ) → (after_write g line).regions ≡ g.regions
unfolding after_write
write_regions g line = refl

pub write_size : (g : Gaps) (line : ℕ) → (after_write g line).size ≡ g.size
unfolding after_write
write_size g line = refl

pub write_interval : (g : Gaps) (line : ℕ) → (after_write g line).interval ≡ g.interval
unfolding after_write
write_interval g line = refl

pub after_regions : (g : Gaps) (lines : List ℕ) → (gaps_after g lines).regions ≡ g.regions
unfolding gaps_after
after_regions g [] = refl
after_regions g (line ∷ lines) = after_regions (after_write g line) lines ∙ write_regions g line

pub after_size : (g : Gaps) (lines : List ℕ) → (gaps_after g lines).size ≡ g.size
unfolding gaps_after
after_size g [] = refl
after_size g (line ∷ lines) = after_size (after_write g line) lines ∙ write_size g line

pub after_interval : (g : Gaps) (lines : List ℕ) → (gaps_after g lines).interval ≡ g.interval
unfolding gaps_after
after_interval g [] = refl
after_interval g (line ∷ lines) = after_interval (after_write g line) lines ∙ write_interval g line

-- ---- the registers stay sound
pub after_sound : (g : Gaps) → GapsSound g → (lines : List ℕ) → AllLines g lines → GapsSound (gaps_after g lines)
unfolding gaps_after after_write
after_sound g s [] a = s
after_sound g s (line ∷ lines) a = after_sound (after_write g line) (write_sound g s line a.0) lines a.1

-- ---- how many copies are made
pub write_few : (g : Gaps) (line : ℕ) → length (write_copies g line) ≤ 1
write_few g line = ⊎_elim
    (λ (e : (row_at g (line / g.size)).due + 1 ≡ g.interval). let l = ap (λ (ks : List Copy). length ks) (write_moves g line e).1 in omega arith)
    (λ (ne : (row_at g (line / g.size)).due + 1 ≢ g.interval). let l = ap (λ (ks : List Copy). length ks) (write_counts g line ne).1 in omega arith)
    (cases_eq ((row_at g (line / g.size)).due + 1) g.interval)

pub write_made : (g : Gaps) (line : ℕ) → (after_write g line).copies ≡ g.copies + length (write_copies g line)
write_made g line = ⊎_elim
    (λ (e : (row_at g (line / g.size)).due + 1 ≡ g.interval).
    let m = write_moves g line e in
    ap (λ (x : Gaps). x.copies) m.0 ∙ ap (λ (ks : List Copy). g.copies + length ks) (sym m.1))
    (λ (ne : (row_at g (line / g.size)).due + 1 ≢ g.interval).
    let m = write_counts g line ne in
    let l = ap (λ (ks : List Copy). length ks) m.1 in
    let c = ap (λ (x : Gaps). x.copies) m.0 in
    omega arith)
    (cases_eq ((row_at g (line / g.size)).due + 1) g.interval)

pub after_made : (g : Gaps) (lines : List ℕ) → (gaps_after g lines).copies ≡ g.copies + length (gaps_copies g lines)
unfolding gaps_after gaps_copies
after_made g [] = omega arith
after_made g (line ∷ lines) =
    let i = after_made (after_write g line) lines in
    let o = write_made g line in
    let l = length-append (write_copies g line) (gaps_copies (after_write g line) lines) in
    omega arith

-- ---- each copy carries its line
pub write_carries : (g : Gaps) → GapsSound g → (line : ℕ) → line < line_count g → AllByRecursion (Carries g (line / g.size)) (write_copies g line)
write_carries g s line h = ⊎_elim
    (λ (e : (row_at g (line / g.size)).due + 1 ≡ g.interval).
    subst (AllByRecursion (Carries g (line / g.size))) (sym (write_moves g line e).1) (copy_carries g s (line / g.size) (line_region g s line h), tt))
    (λ (ne : (row_at g (line / g.size)).due + 1 ≢ g.interval).
    subst (AllByRecursion (Carries g (line / g.size))) (sym (write_counts g line ne).1) tt)
    (cases_eq ((row_at g (line / g.size)).due + 1) g.interval)

-- a copy of the first write, and one of a later write
carried_first : (g : Gaps) → GapsSound g → (line : ℕ) (lines : List ℕ) → line < line_count g → (n : ℕ) → n < length (write_copies g line)
    → CarriedAt g (line ∷ lines) n
unfolding gaps_after gaps_copies
carried_first g s line lines h n k =
    let own = write_copies g line in
    let one = write_few g line in
    record {
      front = [];
      line = line;
      rest = lines;
      split = refl;
      number = omega arith;
      carries =
          subst (Carries g (line / g.size)) (sym (get_or_append_left own (gaps_copies (after_write g line) lines) no_copy n k))
          (All-get_or (Carries g (line / g.size)) own n no_copy k (write_carries g s line h));
    }

carried_later : (g : Gaps) (line : ℕ) (lines : List ℕ) (n : ℕ) → length (write_copies g line) ≤ n
    → CarriedAt (after_write g line) lines (n - length (write_copies g line)) → CarriedAt g (line ∷ lines) n
unfolding gaps_after gaps_copies after_write
carried_later g line lines n k c =
    let own = write_copies g line in
    let g' = after_write g line in
    record {
      front = line ∷ c.front;
      line = c.line;
      rest = c.rest;
      split = ap (λ (xs : List ℕ). line ∷ xs) c.split;
      number = let m = c.number in let l = length-append own (gaps_copies g' c.front) in omega arith;
      carries =
          subst (Carries (gaps_after g' c.front) (c.line / g.size)) (sym (get_or-append_right own (gaps_copies g' lines) (length own) n no_copy refl k))
          c.carries;
    }

pub all_carry : CopiesCarry
unfolding gaps_copies after_write
all_carry g s [] a n h = absurd (omega arith)
all_carry g s (line ∷ lines) a n h =
    let own = write_copies g line in
    let l = length-append own (gaps_copies (after_write g line) lines) in
    ⊎_elim
    (λ (k : n < length own). carried_first g s line lines a.0 n k)
    (λ (k : length own ≤ n). carried_later g line lines n k (all_carry (after_write g line) (write_sound g s line a.0) lines a.1 (n - length own) (omega arith)))
    (cases_lt n (length own))

-- ---- the sum of all dues
pub write_sum : (g : Gaps) → GapsSound g → (line : ℕ) → line < line_count g
    → (after_write g line).copies * g.interval + total_due (after_write g line).rows ≡ g.copies * g.interval + total_due g.rows + 1
write_sum g s line h =
    let region = line / g.size in
    let w = row_at g region in
    ⊎_elim
    (λ (e : w.due + 1 ≡ g.interval).
    let m = write_moves g line e in
    let c = ap (λ (x : Gaps). x.copies * g.interval + total_due x.rows) m.0 in
    let t = total_due_set g region (row_moved g.size w) (g.copies + 1) (line_low g s line h) in
    let z = moved_due g.size w in
    let p = add-mul g.copies 1 g.interval in
    omega arith)
    (λ (ne : w.due + 1 ≢ g.interval).
    let m = write_counts g line ne in
    let c = ap (λ (x : Gaps). x.copies * g.interval + total_due x.rows) m.0 in
    let t = total_due_set g region (row_counted w) g.copies (line_low g s line h) in
    omega arith)
    (cases_eq (w.due + 1) g.interval)

pub after_sum : (g : Gaps) → GapsSound g → (lines : List ℕ) → AllLines g lines
    → (gaps_after g lines).copies * g.interval + total_due (gaps_after g lines).rows ≡ g.copies * g.interval + total_due g.rows + length lines
unfolding gaps_after after_write
after_sum g s [] a = omega arith
after_sum g s (line ∷ lines) a =
    let i = after_sum (after_write g line) (write_sound g s line a.0) lines a.1 in
    let o = write_sum g s line a.0 in
    omega arith

pub new_after_sum : (R K interval : ℕ) → Fit R K interval → (lines : List ℕ) → AllLines (new_gaps R K interval) lines
    → (gaps_after (new_gaps R K interval) lines).copies * interval + total_due (gaps_after (new_gaps R K interval) lines).rows ≡ length lines
new_after_sum R K interval f lines a =
    let i = after_sum (new_gaps R K interval) (new_sound R K interval f) lines a in
    omega arith

-- ---- the writes and the moves of one region
module _ (g : Gaps) (s : GapsSound g) where
  pub write_here : (line region : ℕ) → region ≡ line / g.size → writes_in g region (line ∷ []) ≡ 1
  write_here line region e = ⊎_elim (λ x. x.1) (λ x. absurd (x.0 (sym e))) (times_one (λ (x : ℕ). x / g.size) region line)

  pub write_elsewhere : (line region : ℕ) → region ≢ line / g.size → writes_in g region (line ∷ []) ≡ 0
  write_elsewhere line region ne = ⊎_elim (λ x. absurd (ne (sym x.0))) (λ x. x.1) (times_one (λ (x : ℕ). x / g.size) region line)

  move_here : (region : ℕ) → region < g.regions → moves_in g region (region_copy g region ∷ []) ≡ 1
  move_here region r = ⊎_elim
      (λ x. x.1)
      (λ x. absurd (x.0 (gap_region g s region r)))
      (times_one (λ (k : Copy). k.to / (g.size + 1)) region (region_copy g region))

  move_elsewhere : (region other : ℕ) → other < g.regions → region ≢ other → moves_in g region (region_copy g other ∷ []) ≡ 0
  move_elsewhere region other r ne = ⊎_elim
      (λ x. absurd (ne (sym x.0 ∙ gap_region g s other r)))
      (λ x. x.1)
      (times_one (λ (k : Copy). k.to / (g.size + 1)) region (region_copy g other))

  -- the moves that follow a write, in each case
  module _ (line : ℕ) (h : line < line_count g) (region : ℕ) where
    pub moves_made : region ≡ line / g.size → write_copies g line ≡ region_copy g region ∷ [] → moves_in g region (write_copies g line) ≡ 1
    moves_made e k = ap (λ (ks : List Copy). moves_in g region ks) k ∙ move_here region (subst (λ x. x < g.regions) (sym e) (line_region g s line h))

    pub moves_none : write_copies g line ≡ [] → moves_in g region (write_copies g line) ≡ 0
    moves_none k = ap (λ (ks : List Copy). moves_in g region ks) k

    pub moves_elsewhere : region ≢ line / g.size → moves_in g region (write_copies g line) ≡ 0
    moves_elsewhere ne = ⊎_elim
        (λ (e : (row_at g (line / g.size)).due + 1 ≡ g.interval).
        ap (λ (ks : List Copy). moves_in g region ks) (write_moves g line e).1 ∙ move_elsewhere region (line / g.size) (line_region g s line h) ne)
        (λ (d : (row_at g (line / g.size)).due + 1 ≢ g.interval). ap (λ (ks : List Copy). moves_in g region ks) (write_counts g line d).1)
        (cases_eq ((row_at g (line / g.size)).due + 1) g.interval)

    region_sum : RowChange g line region
        → moves_in g region (write_copies g line) * g.interval + (row_at (after_write g line) region).due ≡ (row_at g region).due + writes_in g region (line ∷ [])
    region_sum (moves e d w k) =
        let m = ap (λ x. x * g.interval) (moves_made e k) in
        let z = ap (λ (x : Row). x.due) w ∙ moved_due g.size (row_at g region) in
        let o = write_here line region e in
        omega arith
    region_sum (counts e w k) =
        let m = ap (λ x. x * g.interval) (moves_none k) in
        let z = ap (λ (x : Row). x.due) w in
        let o = write_here line region e in
        omega arith
    region_sum (stays ne w) =
        let m = ap (λ x. x * g.interval) (moves_elsewhere ne) in
        let z = ap (λ (x : Row). x.due) w in
        let o = write_elsewhere line region ne in
        omega arith

    pub write_region_sum :
        moves_in g region (write_copies g line) * g.interval + (row_at (after_write g line) region).due
        ≡ (row_at g region).due + writes_in g region (line ∷ [])
    write_region_sum = region_sum (row_change g s line h region)

pub after_region_sum : (region : ℕ) (g : Gaps) → GapsSound g → (lines : List ℕ) → AllLines g lines
    → moves_in g region (gaps_copies g lines) * g.interval + (row_at (gaps_after g lines) region).due ≡ (row_at g region).due + writes_in g region lines
unfolding gaps_after gaps_copies after_write
after_region_sum region g s [] a = omega arith
after_region_sum region g s (line ∷ lines) a =
    let i = after_region_sum region (after_write g line) (write_sound g s line a.0) lines a.1 in
    let o = write_region_sum g s line a.0 region in
    let l = times_append (λ (x : Copy). x.to / (g.size + 1)) region (write_copies g line) (gaps_copies (after_write g line) lines) in
    let m = add-mul (moves_in g region (write_copies g line)) (moves_in g region (gaps_copies (after_write g line) lines)) g.interval in
    let p = ap (λ x. x * g.interval) l in
    omega arith

pub new_moves : (R K interval : ℕ) → Fit R K interval → (lines : List ℕ) → AllLines (new_gaps R K interval) lines → (region : ℕ) → region < R
    → (moves_in (new_gaps R K interval) region (gaps_copies (new_gaps R K interval) lines) ≡ writes_in (new_gaps R K interval) region lines / interval)
    × ((row_at (gaps_after (new_gaps R K interval) lines) region).due ≡ writes_in (new_gaps R K interval) region lines % interval)
new_moves R K interval f lines a region r =
    let g = new_gaps R K interval in
    let s = new_sound R K interval f in
    let few = f.few in
    let z = ap (λ (w : Row). w.due) (new_row_at R K interval region (omega arith)) in
    let i = after_region_sum region g s lines a in
    let n = moves_in g region (gaps_copies g lines) in
    let d = (row_at (gaps_after g lines) region).due in
    let e : n * interval + d ≡ writes_in g region lines = omega arith in
    let l : d < interval =
    subst (λ x. d < x) (after_interval g lines)
    ((after_sound g s lines a).dues region (subst (λ x. region < x) (sym (after_regions g lines)) r)) in
    (sym (digits_div n l) ∙ ap (λ x. x / interval) e, sym (digits_mod n l) ∙ ap (λ x. x % interval) e)

-- ---- the start and the gap of a region that has moved n times
abbrev pub AtMove : ℕ → ℕ → Row → Type 0
AtMove K n w = (w.start ≡ n / (K + 1) % K) × (w.gap ≡ K - n % (K + 1))

-- one move: the quotient or the remainder of n by K + 1 goes up by one
pub at_move_next : (K n : ℕ) (w : Row) → AtMove K n w → AtMove K (n + 1) (row_moved K w)
at_move_next K n w a =
    let q = n / (K + 1) in
    let r = n % (K + 1) in
    let pos : 0 < K + 1 = omega arith in
    let hr : r < K + 1 = mod-lt n pos in
    let e = div-add-mod' n (K + 1) in
    let a0 = a.0 in
    let a1 = a.1 in
    ⊎_elim
    (λ (h : r < K).
    let m = moved_high K w (omega arith) in
    let k : r + 1 < K + 1 = omega arith in
    let n1 : n + 1 ≡ q * (K + 1) + (r + 1) = omega arith in
    let d : (n + 1) / (K + 1) ≡ q = ap (λ x. x / (K + 1)) n1 ∙ digits_div q k in
    let o : (n + 1) % (K + 1) ≡ r + 1 = ap (λ x. x % (K + 1)) n1 ∙ digits_mod q k in
    let g : (row_moved K w).gap ≡ w.gap - 1 = ap (λ (x : Row). x.gap) m in
    (ap (λ (x : Row). x.start) m ∙ a0 ∙ ap (λ x. x % K) (sym d), omega arith))
    (λ (h : K ≤ r).
    let m = moved_zero K w (omega arith) in
    let u = add-mul q 1 (K + 1) in
    let n1 : n + 1 ≡ (q + 1) * (K + 1) + 0 = omega arith in
    let d : (n + 1) / (K + 1) ≡ q + 1 = ap (λ x. x / (K + 1)) n1 ∙ digits_div (q + 1) pos in
    let o : (n + 1) % (K + 1) ≡ 0 = ap (λ x. x % (K + 1)) n1 ∙ digits_mod (q + 1) pos in
    let g : (row_moved K w).gap ≡ K = ap (λ (x : Row). x.gap) m in
    (ap (λ (x : Row). x.start) m ∙ ap (λ x. (x + 1) % K) a0 ∙ mod-add-mod q K 1 ∙ ap (λ x. x % K) (sym d), omega arith))
    (cases_lt r K)

at_move_change : (g : Gaps) → GapsSound g → (line : ℕ) → line < line_count g → (region n : ℕ) → RowChange g line region
    → AtMove g.size n (row_at g region) → AtMove g.size (n + moves_in g region (write_copies g line)) (row_at (after_write g line) region)
at_move_change g s line h region n (moves e d w k) a =
    subst (λ x. AtMove g.size x (row_at (after_write g line) region)) (ap (λ x. n + x) (sym (moves_made g s line h region e k)))
    (subst (λ (x : Row). AtMove g.size (n + 1) x) (sym w) (at_move_next g.size n (row_at g region) a))
at_move_change g s line h region n (counts e w k) a =
    let z = moves_none g s line h region k in
    subst (λ x. AtMove g.size x (row_at (after_write g line) region)) (let y : n ≡ n + moves_in g region (write_copies g line) = omega arith in y)
    (subst (λ (x : Row). AtMove g.size n x) (sym w) a)
at_move_change g s line h region n (stays ne w) a =
    let z = moves_elsewhere g s line h region ne in
    subst (λ x. AtMove g.size x (row_at (after_write g line) region)) (let y : n ≡ n + moves_in g region (write_copies g line) = omega arith in y)
    (subst (λ (x : Row). AtMove g.size n x) (sym w) a)

pub after_at_move : (region : ℕ) (g : Gaps) → GapsSound g → (lines : List ℕ) → AllLines g lines → (n : ℕ) → AtMove g.size n (row_at g region)
    → AtMove g.size (n + moves_in g region (gaps_copies g lines)) (row_at (gaps_after g lines) region)
unfolding gaps_after gaps_copies after_write
after_at_move region g s [] a n t = let e : n + 0 ≡ n = omega arith in subst (λ x. AtMove g.size x (row_at g region)) (sym e) t
after_at_move region g s (line ∷ lines) a n t =
    let g' = after_write g line in
    let i = after_at_move region g' (write_sound g s line a.0) lines a.1 (n + moves_in g region (write_copies g line))
    (at_move_change g s line a.0 region n (row_change g s line a.0 region) t) in
    let l = times_append (λ (x : Copy). x.to / (g.size + 1)) region (write_copies g line) (gaps_copies g' lines) in
    let m = moves_in g region (write_copies g line) in
    let e : n + m + moves_in g region (gaps_copies g' lines) ≡ n + moves_in g region (write_copies g line ++ gaps_copies g' lines) = omega arith in
    subst (λ x. AtMove g.size x (row_at (gaps_after g' lines) region)) e i

same_row : (a b c a' b' c' : ℕ) → a ≡ a' → b ≡ b' → c ≡ c'
    → ◌≡◌ {A = Row} (record { start = a; gap = b; due = c }) (record { start = a'; gap = b'; due = c' })
same_row a b c a' b' c' p q r = cc

pub new_rows : (R K interval : ℕ) → Fit R K interval → (lines : List ℕ) → AllLines (new_gaps R K interval) lines → (region : ℕ) → region < R
    → row_at (gaps_after (new_gaps R K interval) lines) region ≡ row_after_writes K interval (writes_in (new_gaps R K interval) region lines)
new_rows R K interval f lines a region r =
    let g = new_gaps R K interval in
    let few = f.few in
    let m = new_moves R K interval f lines a region r in
    let z : row_at g region ≡ new_row K = new_row_at R K interval region (omega arith) in
    let none : AtMove K 0 (new_row K) = (sym (ap (λ x. x % K) (zero-div (K + 1)) ∙ zero-mod K), let y = zero-mod (K + 1) in omega arith) in
    let first : AtMove K 0 (row_at g region) = subst (λ (x : Row). AtMove K 0 x) (sym z) none in
    let n = moves_in g region (gaps_copies g lines) in
    let t = after_at_move region g (new_sound R K interval f) lines a 0 first in
    let e : 0 + n ≡ writes_in g region lines / interval = let m0 = m.0 in omega arith in
    let u = subst (λ x. AtMove K x (row_at (gaps_after g lines) region)) e t in
    same_row _ _ _ _ _ _ u.0 u.1 m.1

pub registers : Registers
registers = record {
  new = new_sound;
  in_order = new_in_order;
  write = write_sound;
  after = after_sound;
  copies = after_made;
  sum = after_sum;
  from_new = λ R K interval f lines a. record {
    sum = new_after_sum R K interval f lines a;
    moves = λ region r. (new_moves R K interval f lines a region r).0;
    rows = new_rows R K interval f lines a;
  };
}
