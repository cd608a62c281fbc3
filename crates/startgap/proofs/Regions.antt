-- All regions at one moment. A line is region * K + offset and a place region * (K + 1) + place in the region, with the last part below
-- the factor; so quotient and remainder give the parts back, and the laws of one region become those of all.
use Rattle.std.proofs.Common.{◌≡◌, ℕ, ◌+◌, ◌*◌, ◌/◌, ◌%◌, ◌<◌, ◌≤◌, cond, ◌≢◌, ◌⊎◌, length, Some, None, Option, sym, refl, ap, ◌∙◌, subst, inl, inr, ⊎_elim, add-zero, mod-lt, mod-eq_of_lt, mul_comm, div-lt_iff_lt-mul, mul-zero, div-add-mod', le-div_iff_mul-le, arith}
use lib.Arith.{digits_lt, digits_div, digits_mod}
use Rattle.std.proofs.lemmas.List.{length-replicate, get_or-replicate}
use Rattle.std.proofs.lemmas.Bool.{cases_lt, cases_eq, lt-ltb, le-ltb}
use Rattle.startgap.specs.declared.row.Row.{Row}
use Rattle.startgap.specs.Rows.{RowSound, new_row, rotated, row_place, row_line, row_holder}
use Rattle.startgap.specs.Regions.{Gaps, GapsSound, region_size, new_gaps, no_row, row_at, line_count, place_count, gap_place, in_region, gap_holder, gap_at}
use Rattle.startgap.specs.Theorems.{Sizes, PlacesHeld, Fit}
use Rattle.startgap.proofs.Rows.{place_low, place_below, place_not_gap, place_apart, line_below, place_of_line, line_of_place, holder_none, holder_some}

-- ---- a number by a size
pub split : (K n : ℕ) → n ≡ n / K * K + n % K
split K n = sym (div-add-mod' n K)

pub region_below : (R K n : ℕ) → 0 < K → n < R * K → n / K < R
region_below R K n k h = (div-lt_iff_lt-mul k).1 h

-- a number below a product: the second factor is not 0
pub factor_positive : (R K n : ℕ) → n < R * K → 0 < K
factor_positive R K n h = ⊎_elim
    (λ (k : 0 < K). k)
    (λ (k : K ≤ 0). let e : K ≡ 0 = omega arith in let z = ap (λ x. R * x) e ∙ mul-zero R in absurd (omega arith))
    (cases_lt 0 K)

pub sizes : Sizes
sizes M R r h =
    let two : 2 ≤ M / R = (le-div_iff_mul-le {k = R} {x = 2} {y = M} r).1 h in
    let e : region_size M R + 1 ≡ M / R = omega arith in
    let m : R * (region_size M R + 1) ≡ M / R * R = ap (λ x. R * x) e ∙ mul_comm R (M / R) in
    let d = div-add-mod' M R in
    let l = mod-lt M r in
    (omega arith, omega arith, omega arith)

-- ---- new registers, and registers from what a layer keeps true
pub new_row_at : (R K interval region : ℕ) → region < 16 → row_at (new_gaps R K interval) region ≡ new_row K
new_row_at R K interval region h = get_or-replicate 16 region (new_row K) no_row h

pub new_sound : (R K interval : ℕ) → Fit R K interval → GapsSound (new_gaps R K interval)
new_sound R K interval f =
    let few = f.few in
    record {
      sized = f.sized;
      paced = f.paced;
      enough = let e = length-replicate 16 (new_row K) in omega arith;
      rows = λ region h. subst (λ (w : Row). RowSound K w) (sym (new_row_at R K interval region (omega arith))) (f.sized, omega arith);
      dues = λ region h. subst (λ (w : Row). w.due < interval) (sym (new_row_at R K interval region (omega arith))) f.paced;
    }

pub sound_from : (g : Gaps) (line : ℕ) → line < line_count g → g.regions ≤ length g.rows
    → ((region : ℕ) → region < g.regions → RowSound g.size (row_at g region))
    → ((region : ℕ) → region < g.regions → (row_at g region).due < g.interval)
    → GapsSound g
sound_from g line h e a b =
    let z = factor_positive g.regions g.size line h in
    let r = region_below g.regions g.size line z h in
    let d = b (line / g.size) r in
    record { sized = z; paced = omega arith; enough = e; rows = a; dues = b }

-- ---- places and holders by region
-- the place of a line by its region and offset
pub place_at : (g : Gaps) (region offset : ℕ) → offset < g.size
    → gap_place g (region * g.size + offset) ≡ region * (g.size + 1) + row_place g.size (row_at g region) offset
unfolding gap_place
place_at g region offset h =
    let K = g.size in
    ap (λ r. r * (K + 1) + row_place K (row_at g r) ((region * K + offset) % K)) (digits_div region h)
    ∙ ap (λ o. region * (K + 1) + row_place K (row_at g region) o) (digits_mod region h)

-- the holder of a place in the regions, and of one past them
pub holder_below : (g : Gaps) (place : ℕ) → place < place_count g
    → gap_holder g place ≡ in_region g.size (place / (g.size + 1)) (row_holder g.size (row_at g (place / (g.size + 1))) (place % (g.size + 1)))
unfolding gap_holder
holder_below g place h =
    let K = g.size in
    ap (λ b. cond b (in_region K (place / (K + 1)) (row_holder K (row_at g (place / (K + 1))) (place % (K + 1)))) None) (lt-ltb place (place_count g) h)

-- the holder of a place by its region and the place within it
pub holder_at : (g : Gaps) (region place : ℕ) → region < g.regions → place < g.size + 1
    → gap_holder g (region * (g.size + 1) + place) ≡ in_region g.size region (row_holder g.size (row_at g region) place)
holder_at g region place r h =
    let K = g.size in
    let P = region * (K + 1) + place in
    holder_below g P (digits_lt r h)
    ∙ ap (λ x. in_region K x (row_holder K (row_at g x) (P % (K + 1)))) (digits_div region h)
    ∙ ap (λ x. in_region K region (row_holder K (row_at g region) x)) (digits_mod region h)

pub holder_past : (g : Gaps) (place : ℕ) → place_count g ≤ place → gap_holder g place ≡ None
unfolding gap_holder
holder_past g place h =
    let K = g.size in
    ap (λ b. cond b (in_region K (place / (K + 1)) (row_holder K (row_at g (place / (K + 1))) (place % (K + 1)))) None) (le-ltb place (place_count g) h)

-- the lines of new registers lie in order
pub new_in_order : (R K interval : ℕ) → Fit R K interval → (region offset : ℕ) → region < R → offset < K
    → gap_place (new_gaps R K interval) (region * K + offset) ≡ region * (K + 1) + offset
new_in_order R K interval f region offset r h =
    let g = new_gaps R K interval in
    let few = f.few in
    let same : rotated K (new_row K) offset ≡ offset = ap (λ x. x % K) (add-zero offset) ∙ mod-eq_of_lt h in
    let low : rotated K (new_row K) offset < K = omega arith in
    place_at g region offset h
    ∙ ap (λ (w : Row). region * (K + 1) + row_place K w offset) (new_row_at R K interval region (omega arith))
    ∙ ap (λ x. region * (K + 1) + x) (place_low K (new_row K) offset low ∙ same)

-- ---- sound registers
module _ (g : Gaps) (s : GapsSound g) where
  pub line_region : (line : ℕ) → line < line_count g → line / g.size < g.regions
  line_region line h = region_below g.regions g.size line s.sized h

  pub offset_below : (line : ℕ) → line % g.size < g.size
  offset_below line = mod-lt line s.sized

  pub row_sound : (line : ℕ) → line < line_count g → RowSound g.size (row_at g (line / g.size))
  row_sound line h = s.rows (line / g.size) (line_region line h)

  pub line_row_below : (line : ℕ) → line < line_count g → row_place g.size (row_at g (line / g.size)) (line % g.size) < g.size + 1
  line_row_below line h = place_below g.size (row_at g (line / g.size)) (row_sound line h) (line % g.size) (offset_below line)

  pub place_within : (line : ℕ) → line < line_count g → gap_place g line < place_count g
  unfolding gap_place
  place_within line h = digits_lt (line_region line h) (line_row_below line h)

  -- a place in a region gives the region, and the place within it
  pub place_parts : (line region place : ℕ) → line < line_count g → place < g.size + 1 → gap_place g line ≡ region * (g.size + 1) + place
      → (line / g.size ≡ region) × (row_place g.size (row_at g (line / g.size)) (line % g.size) ≡ place)
  unfolding gap_place
  place_parts line region place h hp e =
      let k = line_row_below line h in (
        sym (digits_div (line / g.size) k) ∙ ap (λ x. x / (g.size + 1)) e ∙ digits_div region hp,
        sym (digits_mod (line / g.size) k) ∙ ap (λ x. x % (g.size + 1)) e ∙ digits_mod region hp,
      )

  pub places_apart : (i j : ℕ) → i < line_count g → j < line_count g → gap_place g i ≡ gap_place g j → i ≡ j
  unfolding gap_place
  places_apart i j hi hj e =
      let K = g.size in
      let w = row_at g (j / K) in
      let q = place_parts i (j / K) (row_place K w (j % K)) hi (line_row_below j hj) e in
      let same : row_place K w (i % K) ≡ row_place K w (j % K) = ap (λ r. row_place K (row_at g r) (i % K)) (sym q.0) ∙ q.1 in
      let o = place_apart K w (row_sound j hj) (i % K) (j % K) (offset_below i) (offset_below j) same in
      split K i ∙ ap (λ x. x * K + i % K) q.0 ∙ ap (λ x. j / K * K + x) o ∙ sym (split K j)

  -- no line is at a gap
  pub gap_free : (region line : ℕ) → region < g.regions → line < line_count g → gap_place g line ≢ gap_at g region
  gap_free region line r h e =
      let K = g.size in
      let w = row_at g region in
      let t = s.rows region r in
      let q = place_parts line region w.gap h (let t1 = t.1 in omega arith) e in
      place_not_gap K w t (line % K) (offset_below line) (ap (λ x. row_place K (row_at g x) (line % K)) (sym q.0) ∙ q.1)

  pub gap_within : (region : ℕ) → region < g.regions → gap_at g region < place_count g
  gap_within region r = digits_lt r (let t = (s.rows region r).1 in omega arith)

  pub gap_region : (region : ℕ) → region < g.regions → gap_at g region / (g.size + 1) ≡ region
  gap_region region r = digits_div region (let t = (s.rows region r).1 in omega arith)

  -- ---- holders
  pub holder_held : (line : ℕ) → line < line_count g → gap_holder g (gap_place g line) ≡ Some line
  unfolding gap_place
  holder_held line h =
      let K = g.size in
      let r = line / K in
      let o = line % K in
      let w = row_at g r in
      let t = row_sound line h in
      let k = offset_below line in
      holder_at g r (row_place K w o) (line_region line h) (line_row_below line h)
      ∙ ap (in_region K r) (holder_some K w (row_place K w o) (place_not_gap K w t o k) ∙ ap (λ x. Some x) (line_of_place K w t o k))
      ∙ ap (λ x. Some x) (sym (split K line))

  pub holder_free : (region : ℕ) → region < g.regions → gap_holder g (gap_at g region) ≡ None
  holder_free region r =
      let w = row_at g region in
      holder_at g region w.gap r (let t = (s.rows region r).1 in omega arith) ∙ ap (in_region g.size region) (holder_none g.size w w.gap refl)

  -- a place below is a gap, or it holds a line that is there
  pub holder_cases : (place : ℕ) → place < place_count g
      → ((place ≡ gap_at g (place / (g.size + 1))) × (gap_holder g place ≡ None))
      ⊎ ((line : ℕ) × (line < line_count g) × (gap_place g line ≡ place) × (gap_holder g place ≡ Some line))
  holder_cases place h =
      let K = g.size in
      let r = place / (K + 1) in
      let p = place % (K + 1) in
      let pos : 0 < K + 1 = omega arith in
      let hr : r < g.regions = region_below g.regions (K + 1) place pos h in
      let hp : p < K + 1 = mod-lt place pos in
      let w = row_at g r in
      let t = s.rows r hr in
      let e = split (K + 1) place in
      ⊎_elim
      (λ (z : p ≡ w.gap).
      let y : place ≡ gap_at g r = e ∙ ap (λ x. r * (K + 1) + x) z in
      inl (y, ap (gap_holder g) y ∙ holder_free r hr))
      (λ (ne : p ≢ w.gap).
      let o = row_line K w p in
      let ho = line_below K w t p hp ne in
      inr (
        r * K + o,
        digits_lt hr ho,
        place_at g r o ho ∙ ap (λ x. r * (K + 1) + x) (place_of_line K w t p hp ne) ∙ sym e,
        ap (gap_holder g) e ∙ holder_at g r p hr hp ∙ ap (in_region K r) (holder_some K w p ne),
      ))
      (cases_eq p w.gap)

  pub holder_found : (place line : ℕ) → gap_holder g place ≡ Some line → (line < line_count g) × (gap_place g line ≡ place)
  holder_found place line e = ⊎_elim
      (λ (h : place < place_count g). ⊎_elim
      (λ c. absurd (some_none line (sym e ∙ c.1)))
      (λ c. let same : c.0 ≡ line = some_same c.0 line (sym c.3 ∙ e) in (subst (λ x. x < line_count g) same c.1, ap (gap_place g) (sym same) ∙ c.2))
      (holder_cases place h))
      (λ (h : place_count g ≤ place). absurd (some_none line (sym e ∙ holder_past g place h)))
      (cases_lt place (place_count g))
    where
      some_none : (x : ℕ) → Some x ≡ None → ⊥
      some_none x q = let z : ◌≡◌ {A = ℕ} 0 1 = cc in omega arith

      some_same : (x y : ℕ) → Some x ≡ Some y → x ≡ y
      some_same x y q = cc

  pub holder_only : (place : ℕ) → place < place_count g → gap_holder g place ≡ None → place ≡ gap_at g (place / (g.size + 1))
  holder_only place h e = ⊎_elim
      (λ c. c.0)
      (λ c. let z : ◌≡◌ {A = ℕ} 0 1 = some_none_zero c.0 (gap_holder g place) c.3 e in absurd (omega arith))
      (holder_cases place h)
    where
      some_none_zero : (x : ℕ) (o : Option ℕ) → o ≡ Some x → o ≡ None → ◌≡◌ {A = ℕ} 0 1
      some_none_zero x o p q = cc

  pub places_held : PlacesHeld g
  places_held =
      record {
        within = place_within;
        held = holder_held;
        found = holder_found;
        apart = places_apart;
        gap_within = λ region r. (gap_within region r, gap_region region r);
        free = holder_free;
        only = holder_only;
        rests = holder_past g;
      }
