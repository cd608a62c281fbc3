-- One accepted write. It changes the row of one region only. A write that is only counted changes its due, which no place depends on;
-- a move takes one line of the region to the gap and leaves the others, by the laws of one region.
use Rattle.std.proofs.Common.{◌≡◌, ℕ, ◌+◌, ◌*◌, ◌/◌, ◌%◌, ◌<◌, ◌≤◌, true, false, cond, ltb, ◌≢◌, List, [], ◌∷◌, length, get_or, set, Some, None, sym, refl, ap, ◌∙◌, subst, ⊎_elim, arith}
use lib.Arith.{digits_lt, digits_div}
use Rattle.std.proofs.lemmas.List.{length-set, get_or-set_same, get_or-set_other, set_past}
use Rattle.std.proofs.lemmas.List.Sums.{sum_by-set}
use Rattle.std.proofs.lemmas.Bool.{cases_lt, cases_eq, eq-eqb, ne_eqb}
use Rattle.startgap.specs.declared.row.Row.{Row}
use Rattle.startgap.specs.Rows.{RowSound, row_place, row_holder, row_next, move_due, row_counted, row_moved}
use Rattle.startgap.specs.Regions.{Gaps, GapsSound, no_row, row_at, line_count, place_count, gap_place, in_region, gap_holder, gap_at, region_copy, write_copies, with_row, after_write, total_due}
use Rattle.startgap.specs.Theorems.{Kept, Counted, Moved, Writes, Carries}
use Rattle.startgap.proofs.Rows.{from_is, from_below, moved_below, moved_from, moved_arrives, moved_sound, moved_gap, moved_due, moved_high, moved_zero, others_stay, counted_place, counted_holder}
use Rattle.startgap.proofs.Regions.{split, region_below, line_region, offset_below, place_at, gap_free, gap_within, holder_past, holder_held, holder_free, holder_cases}

-- ---- what holds of every row, or of every row that Q picks, still does after one is set
pub set_keeps : (P : Row → Type 0) (Q : ℕ → Type 0) (rows : List Row) (region : ℕ) (w : Row)
    → ((k : ℕ) → Q k → P (get_or rows k no_row)) → P w → (k : ℕ) → Q k → P (get_or (set rows region w) k no_row)
set_keeps P Q rows region w all here k q = ⊎_elim
    (λ (e : k ≡ region). ⊎_elim
    (λ (h : region < length rows). subst P (sym (ap (λ x. get_or (set rows region w) x no_row) e ∙ get_or-set_same rows region w no_row h)) here)
    (λ (h : length rows ≤ region). subst P (ap (λ x. get_or x k no_row) (sym (set_past rows region w h))) (all k q))
    (cases_lt region (length rows)))
    (λ ne. subst P (sym (get_or-set_other rows region k w no_row ne)) (all k q))
    (cases_eq k region)

-- ---- the registers with another row for one region
module _ (g : Gaps) (region : ℕ) (w : Row) (n : ℕ) where
  pub row_here : region < length g.rows → row_at (with_row g region w n) region ≡ w
  row_here h = get_or-set_same g.rows region w no_row h

  pub row_there : (other : ℕ) → other ≢ region → row_at (with_row g region w n) other ≡ row_at g other
  row_there other ne = get_or-set_other g.rows region other w no_row ne

  pub with_row_sound : GapsSound g → RowSound g.size w → w.due < g.interval → GapsSound (with_row g region w n)
  with_row_sound s a b =
      record {
        sized = s.sized;
        paced = s.paced;
        enough = let e = s.enough in let l = length-set g.rows region w in omega arith;
        rows = set_keeps (RowSound g.size) (λ k. k < g.regions) g.rows region w s.rows a;
        dues = set_keeps (λ (x : Row). x.due < g.interval) (λ k. k < g.regions) g.rows region w s.dues b;
      }

  pub with_row_kept : Kept g (with_row g region w n) region
  with_row_kept = record { regions = refl; size = refl; interval = refl; row_count = length-set g.rows region w; others = row_there }

  -- the sum of all dues
  pub total_due_set : region < length g.rows → total_due (set g.rows region w) + (row_at g region).due ≡ total_due g.rows + w.due
  total_due_set h = sum_by-set (λ (x : Row). x.due) g.rows region w no_row h

-- ---- a row that differs in its due alone: every place and holder stays
module _ (g : Gaps) (region n : ℕ) (h : region < length g.rows) where
  counted_row : (other : ℕ) → (P : Row → ℕ → ℕ) → ((o : ℕ) → P (row_counted (row_at g region)) o ≡ P (row_at g region) o) → (o : ℕ)
      → P (row_at (with_row g region (row_counted (row_at g region)) n) other) o ≡ P (row_at g other) o
  counted_row other P same o = ⊎_elim
      (λ (e : other ≡ region).
      ap (λ r. P (row_at (with_row g region (row_counted (row_at g region)) n) r) o) e
      ∙ ap (λ w. P w o) (row_here g region (row_counted (row_at g region)) n h)
      ∙ same o
      ∙ ap (λ r. P (row_at g r) o) (sym e))
      (λ ne. ap (λ w. P w o) (row_there g region (row_counted (row_at g region)) n other ne))
      (cases_eq other region)

  pub counted_places : (line : ℕ) → gap_place (with_row g region (row_counted (row_at g region)) n) line ≡ gap_place g line
  unfolding gap_place
  counted_places line =
      let K = g.size in
      ap (λ x. line / K * (K + 1) + x) (counted_row (line / K) (row_place K) (counted_place K (row_at g region)) (line % K))

  pub counted_holders : (place : ℕ) → gap_holder (with_row g region (row_counted (row_at g region)) n) place ≡ gap_holder g place
  unfolding gap_holder
  counted_holders place =
      let K = g.size in
      let r = place / (K + 1) in
      let g' = with_row g region (row_counted (row_at g region)) n in
      ap (λ x. cond (ltb place (place_count g)) (in_region K r x) None)
      (⊎_elim
      (λ (e : r ≡ region).
      ap (λ y. row_holder K (row_at g' y) (place % (K + 1))) e
      ∙ ap (λ w. row_holder K w (place % (K + 1))) (row_here g region (row_counted (row_at g region)) n h)
      ∙ counted_holder K (row_at g region) (place % (K + 1))
      ∙ ap (λ y. row_holder K (row_at g y) (place % (K + 1))) (sym e))
      (λ ne. ap (λ w. row_holder K w (place % (K + 1))) (row_there g region (row_counted (row_at g region)) n r ne))
      (cases_eq r region))

-- ---- the copy of a region's move, and the registers after it
module _ (g : Gaps) (s : GapsSound g) (region : ℕ) (r : region < g.regions) where
  region_low : region < length g.rows
  region_low = let e = s.enough in omega arith

  pub copy_line_below : (region_copy g region).moved < line_count g
  copy_line_below = digits_lt r (moved_below g.size (row_at g region) (s.rows region r))

  pub copy_region : (region_copy g region).moved / g.size ≡ region
  copy_region = digits_div region (moved_below g.size (row_at g region) (s.rows region r))

  pub copy_reads : gap_place g (region_copy g region).moved ≡ (region_copy g region).from
  copy_reads =
      let K = g.size in
      let w = row_at g region in
      let t = s.rows region r in
      place_at g region (row_next K w) (moved_below K w t) ∙ ap (λ p. region * (K + 1) + p) (moved_from K w t)

  pub copy_from_below : (region_copy g region).from < place_count g
  copy_from_below = digits_lt r (from_below g.size (row_at g region) (s.rows region r))

  pub copy_to_below : (region_copy g region).to < place_count g
  copy_to_below = gap_within g s region r

  pub copy_to_free : (line : ℕ) → line < line_count g → gap_place g line ≢ (region_copy g region).to
  copy_to_free line h = gap_free g s region line r h

  pub copy_carries : Carries g region (region_copy g region)
  copy_carries = record { within = copy_line_below; same_region = copy_region; reads = copy_reads; writes = refl }

  module _ (n : ℕ) where
    abbrev moved_gaps : Gaps
    moved_gaps = with_row g region (row_moved g.size (row_at g region)) n

    pub moved_gaps_sound : GapsSound moved_gaps
    moved_gaps_sound =
        with_row_sound g region (row_moved g.size (row_at g region)) n s (moved_sound g.size (row_at g region) (s.rows region r))
        (let e = moved_due g.size (row_at g region) in let p = s.paced in omega arith)

    pub moved_row : row_at moved_gaps region ≡ row_moved g.size (row_at g region)
    moved_row = row_here g region (row_moved g.size (row_at g region)) n region_low

    pub copy_arrives : gap_place moved_gaps (region_copy g region).moved ≡ (region_copy g region).to
    copy_arrives =
        let K = g.size in
        let w = row_at g region in
        let t = s.rows region r in
        place_at moved_gaps region (row_next K w) (moved_below K w t)
        ∙ ap (λ (x : Row). region * (K + 1) + row_place K x (row_next K w)) moved_row
        ∙ ap (λ p. region * (K + 1) + p) (moved_arrives K w t)

    pub copy_leaves : (line : ℕ) → line < line_count g → line ≢ (region_copy g region).moved → gap_place moved_gaps line ≡ gap_place g line
    unfolding gap_place
    copy_leaves line h ne =
        let K = g.size in
        let w = row_at g region in
        let w' = row_moved K w in
        let t = s.rows region r in
        ap (λ x. line / K * (K + 1) + x)
        (⊎_elim
        (λ (e : line / K ≡ region).
        let off : line % K ≢ row_next K w = λ z. ne (split K line ∙ ap (λ x. x * K + line % K) e ∙ ap (λ o. region * K + o) z) in
        ap (λ x. row_place K (row_at moved_gaps x) (line % K)) e
        ∙ ap (λ (x : Row). row_place K x (line % K)) moved_row
        ∙ others_stay K w t (line % K) (offset_below g s line) off
        ∙ ap (λ x. row_place K (row_at g x) (line % K)) (sym e))
        (λ d. ap (λ (x : Row). row_place K x (line % K)) (row_there g region w' n (line / K) d))
        (cases_eq (line / K) region))

    pub copy_gap : gap_at moved_gaps region ≡ (region_copy g region).from
    copy_gap = ap (λ (x : Row). region * (g.size + 1) + x.gap) moved_row ∙ ap (λ p. region * (g.size + 1) + p) (moved_gap g.size (row_at g region))

    -- a move changes the holders of the two places of its copy alone
    pub copy_held : gap_holder moved_gaps (region_copy g region).to ≡ Some (region_copy g region).moved
    copy_held = ap (gap_holder moved_gaps) (sym copy_arrives) ∙ holder_held moved_gaps moved_gaps_sound (region_copy g region).moved copy_line_below

    pub copy_freed : gap_holder moved_gaps (region_copy g region).from ≡ None
    copy_freed = ap (gap_holder moved_gaps) (sym copy_gap) ∙ holder_free moved_gaps moved_gaps_sound region r

    pub copy_holders : (place : ℕ) → place ≢ (region_copy g region).from → place ≢ (region_copy g region).to
        → gap_holder moved_gaps place ≡ gap_holder g place
    copy_holders place not-from not-to =
        let K = g.size in
        let own = place / (K + 1) in
        ⊎_elim
        (λ (h : place < place_count g). ⊎_elim
        (λ c.
        let ne : own ≢ region = λ e. not-to (c.0 ∙ ap (gap_at g) e) in
        let same : gap_at moved_gaps own ≡ place = ap (λ (x : Row). own * (K + 1) + x.gap) (row_there g region (row_moved K (row_at g region)) n own ne) ∙ sym c.0 in
        let below : own < g.regions = region_below g.regions (K + 1) place (omega arith) h in
        ap (gap_holder moved_gaps) (sym same) ∙ holder_free moved_gaps moved_gaps_sound own below ∙ sym c.1)
        (λ c.
        let ne : c.0 ≢ (region_copy g region).moved = λ e. not-from (sym c.2 ∙ ap (gap_place g) e ∙ copy_reads) in
        ap (gap_holder moved_gaps) (sym (copy_leaves c.0 c.1 ne ∙ c.2)) ∙ holder_held moved_gaps moved_gaps_sound c.0 c.1 ∙ sym c.3)
        (holder_cases g s place h))
        (λ (h : place_count g ≤ place). holder_past moved_gaps place h ∙ sym (holder_past g place h))
        (cases_lt place (place_count g))

-- ---- which of the two a write does
module _ (g : Gaps) (line : ℕ) where
  pub write_counts : (row_at g (line / g.size)).due + 1 ≢ g.interval
      → (after_write g line ≡ with_row g (line / g.size) (row_counted (row_at g (line / g.size))) g.copies) × (write_copies g line ≡ [])
  unfolding after_write write_copies
  write_counts ne =
      let region = line / g.size in
      let w = row_at g region in
      let e : move_due g.interval w ≡ false = ne_eqb (w.due + 1) g.interval ne in (
        ap (λ b. with_row g region (cond b (row_moved g.size w) (row_counted w)) (cond b (g.copies + 1) g.copies)) e,
        ap (λ b. cond b (region_copy g region ∷ []) []) e,
      )

  pub write_moves : (row_at g (line / g.size)).due + 1 ≡ g.interval
      → (after_write g line ≡ with_row g (line / g.size) (row_moved g.size (row_at g (line / g.size))) (g.copies + 1))
      × (write_copies g line ≡ region_copy g (line / g.size) ∷ [])
  unfolding after_write write_copies
  write_moves e' =
      let region = line / g.size in
      let w = row_at g region in
      let e : move_due g.interval w ≡ true = eq-eqb (w.due + 1) g.interval e' in (
        ap (λ b. with_row g region (cond b (row_moved g.size w) (row_counted w)) (cond b (g.copies + 1) g.copies)) e,
        ap (λ b. cond b (region_copy g region ∷ []) []) e,
      )

module _ (g : Gaps) (s : GapsSound g) (line : ℕ) (h : line < line_count g) where
  pub line_low : line / g.size < length g.rows
  line_low = let q = line_region g s line h in let e = s.enough in omega arith

  -- the registers stay sound
  pub write_sound : GapsSound (after_write g line)
  write_sound =
      let region = line / g.size in
      let r = line_region g s line h in
      ⊎_elim
      (λ (e : (row_at g region).due + 1 ≡ g.interval). subst GapsSound (sym (write_moves g line e).0) (moved_gaps_sound g s region r (g.copies + 1)))
      (λ (ne : (row_at g region).due + 1 ≢ g.interval).
      let d = s.dues region r in
      let less : (row_at g region).due + 1 < g.interval = below_unless _ _ d ne in
      subst GapsSound (sym (write_counts g line ne).0) (with_row_sound g region (row_counted (row_at g region)) g.copies s (s.rows region r) less))
      (cases_eq ((row_at g region).due + 1) g.interval)
    where
      below_unless : (d I : ℕ) → d < I → d + 1 ≢ I → d + 1 < I
      below_unless d I a b = ⊎_elim (λ (x : d + 1 < I). x) (λ (x : I ≤ d + 1). absurd (b (omega arith))) (cases_lt (d + 1) I)

  pub counted_write : (row_at g (line / g.size)).due + 1 ≢ g.interval → Counted g line (after_write g line) (line / g.size)
  counted_write ne =
      let region = line / g.size in
      let w = row_counted (row_at g region) in
      let e = write_counts g line ne in
      subst (λ (g' : Gaps). Counted g line g' region) (sym e.0)
      (record {
        kept = with_row_kept g region w g.copies;
        none = e.1;
        made = refl;
        row = row_here g region w g.copies line_low;
        places = counted_places g region g.copies line_low;
        holders = counted_holders g region g.copies line_low;
      })

  pub moved_write : (row_at g (line / g.size)).due + 1 ≡ g.interval
      → Moved g line (after_write g line) (line / g.size) (region_copy g (line / g.size))
  moved_write d =
      let region = line / g.size in
      let K = g.size in
      let w = row_at g region in
      let n = g.copies + 1 in
      let r = line_region g s line h in
      let e = write_moves g line d in
      let k = region_copy g region in
      let f = from_is K w (s.rows region r) in
      subst (λ (g' : Gaps). Moved g line g' region k) (sym e.0)
      (record {
        kept = with_row_kept g region (row_moved K w) n;
        one = e.1;
        made = refl;
        row_above = λ p. moved_row g s region r n ∙ moved_high K w p;
        row_zero = λ z. moved_row g s region r n ∙ moved_zero K w (omega arith);
        from_above = λ p. omega arith;
        from_zero = λ z. (omega arith, omega arith);
        within = copy_line_below g s region r;
        holder = subst (λ p. gap_holder g p ≡ Some k.moved) (copy_reads g s region r) (holder_held g s k.moved (copy_line_below g s region r));
        from = copy_reads g s region r;
        into = refl;
        arrived = copy_arrives g s region r n;
        others = copy_leaves g s region r n;
        gap = copy_gap g s region r n;
        held = copy_held g s region r n;
        freed = copy_freed g s region r n;
        holders = copy_holders g s region r n;
      })

-- what a write does to the row of a region, and which copies follow
pub data RowChange (g : Gaps) (line region : ℕ) : Type 0 where
  moves : region ≡ line / g.size → (row_at g region).due + 1 ≡ g.interval
      → row_at (after_write g line) region ≡ row_moved g.size (row_at g region) → write_copies g line ≡ region_copy g region ∷ []
      → RowChange g line region
  counts : region ≡ line / g.size → row_at (after_write g line) region ≡ row_counted (row_at g region) → write_copies g line ≡ []
      → RowChange g line region
  stays : region ≢ line / g.size → row_at (after_write g line) region ≡ row_at g region → RowChange g line region

pub row_change : (g : Gaps) → GapsSound g → (line : ℕ) → line < line_count g → (region : ℕ) → RowChange g line region
row_change g s line h region =
    let K = g.size in
    let own = line / K in
    let w = row_at g own in
    ⊎_elim
    (λ (d : w.due + 1 ≡ g.interval).
    let m = write_moves g line d in
    let g' = with_row g own (row_moved K w) (g.copies + 1) in
    let after : row_at (after_write g line) region ≡ row_at g' region = ap (λ (x : Gaps). row_at x region) m.0 in
    ⊎_elim
    (λ (e : region ≡ own).
    moves e (ap (λ x. (row_at g x).due + 1) e ∙ d)
    (after ∙ ap (row_at g') e ∙ row_here g own (row_moved K w) (g.copies + 1) (line_low g s line h) ∙ ap (λ x. row_moved K (row_at g x)) (sym e))
    (m.1 ∙ ap (λ x. region_copy g x ∷ []) (sym e)))
    (λ (ne : region ≢ own). stays ne (after ∙ row_there g own (row_moved K w) (g.copies + 1) region ne))
    (cases_eq region own))
    (λ (d : w.due + 1 ≢ g.interval).
    let m = write_counts g line d in
    let g' = with_row g own (row_counted w) g.copies in
    let after : row_at (after_write g line) region ≡ row_at g' region = ap (λ (x : Gaps). row_at x region) m.0 in
    ⊎_elim
    (λ (e : region ≡ own).
    counts e
    (after ∙ ap (row_at g') e ∙ row_here g own (row_counted w) g.copies (line_low g s line h) ∙ ap (λ x. row_counted (row_at g x)) (sym e))
    m.1)
    (λ (ne : region ≢ own). stays ne (after ∙ row_there g own (row_counted w) g.copies region ne))
    (cases_eq region own))
    (cases_eq (w.due + 1) g.interval)

pub writes : Writes
writes = record { counts = counted_write; moves = moved_write }
