-- What the fields of a layer keep true, and what it means by them. The registers are sound, so places and lines follow the laws of
-- regions; and copies * interval, with what is due, is taken, so that the life pays for each copy before it is made.
use Rattle.std.proofs.Common.{◌≡◌, ℕ, ◌+◌, ◌*◌, ◌/◌, ◌<◌, ◌≤◌, ◌≢◌, List, [], ◌∷◌, length, get_or, None, Ok, Err, refl, ap, ◌∙◌, subst, arith}
use Rattle.std.proofs.lemmas.Bool.Decides.{nat_tests}
use Rattle.std.proofs.lemmas.List.Sums.{get_or-le-sum_by}
use Rattle.line.specs.declared.denial.Denial.{Denial}
use Rattle.startgap.specs.declared.row.Row.{Row}
use Rattle.startgap.specs.Rows.{row_place, row_counted, row_moved}
use Rattle.startgap.specs.Regions.{Gaps, GapsSound, no_row, row_at, line_count, place_count, gap_place, gap_holder, with_row, after_write, total_due}
use Rattle.startgap.proofs.Paid.{copies_paid, move_paid as copy_paid}
use Rattle.startgap.proofs.Regions.{place_at, place_within, holder_past}
use Rattle.startgap.proofs.Runs.{write_interval, write_sum}
use Rattle.startgap.proofs.Writes.{write_counts, write_moves, line_low}
use Rattle.medium.specs.Array.{Array, fetched, denied_by}
use Rattle.medium.specs.Law.{left}
use Rattle.medium.specs.Pile.{gaps, Pile, over, Served}
use Rattle.medium.specs.declared.call.Call.TheVariants.{Read, Write}
use Rattle.medium.proofs.Arrays.{accepts_read, accepts_write, fetched_by}
use Rattle.medium.proofs.Layers.{placed_in, placed_at, placed_length, placed_empty, fetched_same, paid_below, asked_read, layer_accepted}
use Rattle.gap.specs.declared.layer.GapLayer.{GapLayer}
use Rattle.gap.specs.declared.regions.Regions.{Regions}
use Rattle.gap.specs.Regions.{gap_lines, gap_life, gap_array, place_answer}
use Rattle.gap.specs.Registers.{registers}

-- what the fields of a layer say
pub record Held (g : Gaps) (taken life : ℕ) : Type 0 where
  pub within : taken ≤ life
  pub sound : GapsSound g
  pub counted : g.copies * g.interval + total_due g.rows ≡ taken

pub sound_of : (x : Regions) → GapsSound (registers x)
sound_of x =
    record {
      sized = x.sized;
      paced = x.paced;
      enough = x.enough;
      rows = λ region h. (x.starts region, x.holes region);
      dues = λ region h. x.dues region;
    }

pub fields : {M : Type 0} (x : GapLayer M) → Held (registers x.regions) x.taken x.life
fields x = record { within = x.within; sound = sound_of x.regions; counted = x.counted }

-- a line that is there is never denied
pub fetched_never : {A : Type 0} (ls : List A) (i : ℕ) (e : Denial) → i < length ls → Err e ≡ fetched ls i → ⊥
fetched_never [] i e h q = omega arith
fetched_never (x ∷ xs) i e h q =
    let k = fetched_by (x ∷ xs) i (get_or (x ∷ xs) i x) x h refl in
    let z : ◌≡◌ {A = ℕ} 0 1 = cc in
    omega arith

-- ---- what the answer on a place says
pub placed : (g : Gaps) (n line p : ℕ) → Ok p ≡ place_answer g n line → (line < n) × (p ≡ gap_place g line)
placed g n line p e = grind (arith, nat_tests)

pub not_placed : (g : Gaps) (n line : ℕ) (d : Denial) → Err d ≡ place_answer g n line → n ≤ line
not_placed g n line d e = grind (arith, nat_tests)

-- ---- places, over the lines ls
module _ {A : Type 0} (g : Gaps) (s : GapsSound g) (ls : List A) where
  pub line_there : (i : ℕ) → i < length (gap_lines g ls) → (i < line_count g) × (place_count g ≤ length ls)
  line_there i h = placed_in (line_count g) (place_count g) (gap_place g) (place_within g s) ls i h

  pub place_there : (i : ℕ) → i < length (gap_lines g ls) → gap_place g i < length ls
  place_there i h = let k = line_there i h in let l = place_within g s i k.0 in let m = k.1 in omega arith

  pub read_line : (i p : ℕ) → i < length (gap_lines g ls) → p ≡ gap_place g i → fetched ls p ≡ fetched (gap_lines g ls) i
  read_line i p h e =
      let k = line_there i h in
      ap (λ x. fetched ls x) e
      ∙ fetched_same (gap_lines g ls) ls i (gap_place g i) h (place_there i h)
      (λ d. placed_at (line_count g) (place_count g) (gap_place g) (place_within g s) ls i d k.1 k.0)

-- a read over what means the array b, is served
pub read_served : {A : Type 0} (g : Gaps) (s : GapsSound g) (b : Array A) (life taken u : ℕ) (t : Pile A) (i p : ℕ)
    → i < length (gap_lines g b.lines) → p ≡ gap_place g i → Served t b u (Read p ∷ []) t u
    → Served (over (gaps g) b u t) (gap_array g life taken b) u (Read i ∷ []) (over (gaps g) b u t) u
read_served g s b life taken u t i p h e served =
    layer_accepted (gaps g) (gaps g) b b u u t t (gap_array g life taken b) (Read i) (accepts_read _ i h) refl
    (asked_read b u t (gap_place g i) (place_there g s b.lines i h) (subst (λ x. Served t b u (Read x ∷ []) t u) e served))

-- of the registers that a layer holds: how many lines are there, by what lies below
pub line_total : {A : Type 0} (x : Regions) (ls : List A) → place_count (registers x) ≤ length ls
    → length (gap_lines (registers x) ls) ≡ line_count (registers x)
line_total x ls h =
    let g = registers x in placed_length (line_count g) (place_count g) (gap_place g) (place_within g (sound_of x)) ls h

pub line_none : {A : Type 0} (x : Regions) (ls : List A) → length ls < place_count (registers x) → length (gap_lines (registers x) ls) ≡ 0
line_none x ls h =
    let g = registers x in placed_empty (line_count g) (place_count g) (gap_place g) (place_within g (sound_of x)) ls h

-- where a line is, and which places hold none
pub place_in : (x : Regions) (region offset : ℕ) → offset < x.size
    → gap_place (registers x) (region * x.size + offset) ≡ region * (x.size + 1) + row_place x.size (row_at (registers x) region) offset
place_in x region offset h = place_at (registers x) region offset h

pub holder_rests : (x : Regions) (place : ℕ) → place_count (registers x) ≤ place → gap_holder (registers x) place ≡ None
holder_rests x place h = holder_past (registers x) place h

-- a line that is there is one of the regions', and is read at its place
pub line_below : {A : Type 0} (x : Regions) (ls : List A) (i : ℕ) → i < length (gap_lines (registers x) ls) → i < line_count (registers x)
line_below x ls i h = (line_there (registers x) (sound_of x) ls i h).0

pub line_read : {A : Type 0} (x : Regions) (ls : List A) (i p : ℕ) → i < length (gap_lines (registers x) ls) → p ≡ gap_place (registers x) i
    → fetched ls p ≡ fetched (gap_lines (registers x) ls) i
line_read x ls i p h e = read_line (registers x) (sound_of x) ls i p h e

-- ---- what the life pays for
module _ {A : Type 0} (g : Gaps) (life taken : ℕ) (held : Held g taken life) (b : Array A) where
  -- what is left below pays for a write
  pub write_paid : taken < gap_life g life taken (left b)
      → (taken < life) × (life + life / g.interval ≤ taken + g.copies + left b) × (g.copies ≤ life / g.interval)
  write_paid k =
      let m = paid_below life taken (life + life / g.interval) (taken + g.copies + left b) k in
      let e = m.1 in
      let tl : taken < life = omega arith in
      (tl, m.0, copies_paid life taken g.copies g.interval (total_due g.rows) held.sound.paced held.counted held.within)

  pub write_accepted : (i p : ℕ) (v : A) → i < length (gap_lines g b.lines) → taken < gap_life g life taken (left b) → p ≡ gap_place g i
      → denied_by b (Write p v) ≡ None
  write_accepted i p v h k e =
      let q = place_there g held.sound b.lines i h in
      let l = write_paid k in
      let l0 = l.0 in
      let l1 = l.1 in
      let l2 = l.2 in
      accepts_write b p v (omega arith) (omega arith)

  -- and for a move
  pub move_paid : (i : ℕ) → i < length (gap_lines g b.lines) → taken < gap_life g life taken (left b) → (row_at g (i / g.size)).due + 1 ≡ g.interval
      → g.copies + 1 ≤ life / g.interval
  move_paid i h k d =
      let l = write_paid k in
      let low = line_low g held.sound i (line_there g held.sound b.lines i h).0 in
      copy_paid life taken g.copies g.interval (total_due g.rows) (row_at g (i / g.size)).due held.sound.paced held.counted
      (get_or-le-sum_by (λ (w : Row). w.due) g.rows (i / g.size) no_row low) d l.0

-- ---- after an accepted write: the copies made, times interval, with what is due, are one more
pub counted_after : (g g' : Gaps) (life taken i : ℕ) → Held g taken life → i < line_count g → g' ≡ after_write g i
    → g'.copies * g'.interval + total_due g'.rows ≡ taken + 1
counted_after g g' life taken i held h e =
    ap (λ (y : Gaps). y.copies * y.interval + total_due y.rows) e
    ∙ ap (λ n. (after_write g i).copies * n + total_due (after_write g i).rows) (write_interval g i)
    ∙ write_sum g held.sound i h
    ∙ ap (λ n. n + 1) held.counted

-- ---- the registers after a write
pub turned_counts : (x : Regions) (line : ℕ) → (row_at (registers x) (line / x.size)).due + 1 ≢ x.interval
    → after_write (registers x) line ≡ with_row (registers x) (line / x.size) (row_counted (row_at (registers x) (line / x.size))) x.copies
turned_counts x line ne = (write_counts (registers x) line ne).0

pub turned_moves : (x : Regions) (line : ℕ) → (row_at (registers x) (line / x.size)).due + 1 ≡ x.interval
    → after_write (registers x) line ≡ with_row (registers x) (line / x.size) (row_moved x.size (row_at (registers x) (line / x.size))) (x.copies + 1)
turned_moves x line d = (write_moves (registers x) line d).0
