-- The making of the layer. Where the survey says yes, the settings are in range, the size is the greatest power of two and the life is the
-- greatest that is paid; the table's first keys are the ring, so the registers are new ones, and no copy has been made yet. An unfit layer
-- has size 0 and so no lines.
use Rattle.std.proofs.Common.{◌≡◌, ℕ, ◌+◌, ◌/◌, ◌<◌, ◌≤◌, true, false, cond, leb, List, [], length, is_err, Ok, Result, sym, refl, ap, ◌∙◌, subst, ⊎_elim, arith}
use Rattle.std.proofs.lemmas.Bool.{cases_lt}
use Rattle.line.specs.declared.denial.Denial.{Denial}
use Rattle.line.specs.declared.denial.Denial.TheVariants.{LifeOutOfRange, SettingsOutOfRange, TooFewLines}
use Rattle.line.specs.Denials.{ask, in_range}
use Rattle.refresh.specs.declared.round.Round.{Round}
use Rattle.refresh.specs.Life.{Pays, GreatestLife, life_of}
use Rattle.refresh.specs.Powers.{greatest_power}
use Rattle.refresh.specs.Refresh.{Registers, place_of, new_registers, Bounded}
use Rattle.refresh.proofs.Counts.{bounded_first}
use Rattle.refresh.proofs.Lives.{life_greatest}
use Rattle.refresh.proofs.Powers.{greatest_computed, greatest_only}
use Rattle.refresh.proofs.Quotients.{quotient_small}
use Rattle.medium.specs.Array.{Array}
use Rattle.medium.specs.Law.{left}
use Rattle.medium.specs.Pile.{refresh, Pile, over, placed_lines, paid_life}
use Rattle.medium.proofs.Layers.{paid_yes}
use Rattle.refresher.specs.Layer.{refresh_array, refresh_survey, Made, MadeUnfit}
use Rattle.refresher.proofs.Sizes.{power_small}

-- ---- the survey
-- the settings, the size n and the life d are in range
record FitsIn (ring interval n d : ℕ) : Type 0 where
  pub two : 2 ≤ ring
  pub short : ring ≤ 16
  pub paced : 1 ≤ interval
  pub wide : 2 ≤ n
  pub lives : 1 ≤ d

questions_yes : (ring interval n d : ℕ)
    → is_err (ask (cond (in_range 2 16 ring) (in_range 1 65535 interval) false) SettingsOutOfRange (ask (leb 2 n) TooFewLines (ask (leb 1 d) LifeOutOfRange (Ok tt)))) ≡ false
    → FitsIn ring interval n d
questions_yes ring interval n d e =
    record { two = grind (arith, e); short = grind (arith, e); paced = grind (arith, e); wide = grind (arith, e); lives = grind (arith, e) }

survey_yes : (ring interval count room : ℕ) → is_err (refresh_survey ring interval count room) ≡ false
    → FitsIn ring interval (greatest_power count) (life_of interval (greatest_power count) room)
survey_yes ring interval count room e = questions_yes ring interval (greatest_power count) (life_of interval (greatest_power count) room) e

-- ---- the size
-- a greatest power of two that is 2 or more has a count of 2 or more
pub count_some : (m : ℕ) → 2 ≤ greatest_power m → 1 ≤ m
count_some m h = ⊎_elim (λ (l : m < 2). let e = power_small m l in absurd (omega arith)) (λ (l : 2 ≤ m). omega arith) (cases_lt m 2)

-- the size that a count gives is a size that may be kept
pub size_few : (m : ℕ) → m ≤ 4096 → greatest_power m ≤ 4096
size_few m few = ⊎_elim
    (λ (l : m < 1). let e = power_small m (omega arith) in omega arith)
    (λ (l : 1 ≤ m). let k = (greatest_computed m l few).within in omega arith)
    (cases_lt m 1)

pub size_again : (m : ℕ) → m ≤ 4096 → greatest_power m ≡ greatest_power (greatest_power m)
size_again m few = ⊎_elim
    (λ (l : m < 1). let e = power_small m (omega arith) in e ∙ sym (power_small 1 (omega arith)) ∙ ap greatest_power (sym e))
    (λ (l : 1 ≤ m).
    let g = greatest_computed m l few in
    let k = g.within in
    let z = g.greatest 0 (omega arith) in
    greatest_only (greatest_power m) (greatest_power m) (omega arith) (omega arith) (record { power = g.power; within = omega arith; greatest = λ j x. x }))
    (cases_lt m 1)

-- ---- the life
pub life_pays : (interval n room : ℕ) → 1 ≤ interval → 1 ≤ life_of interval n room → Pays interval n room (life_of interval n room)
life_pays interval n room h l = ⊎_elim
    (λ (p : Pays interval n room (life_of interval n room)). p)
    (λ (p : ((d : ℕ) → Pays interval n room d → ⊥) × (life_of interval n room ≡ 0)). let z = p.1 in absurd (omega arith))
    (life_greatest interval n room h).pays

-- ---- a layer that fits
new_made : {A : Type 0} (b : Array A) (interval : ℕ) (ring : List ℕ) (u : ℕ) (t : Pile A) → interval ≤ 65535 → length b.lines ≤ 4096
    → (let n : ℕ = greatest_power (length b.lines) in let d : ℕ = life_of interval n (left b) in let g : Registers = new_registers n interval ring in
    FitsIn (length ring) interval n d → Made g (refresh_array g d 0 b) b u u (over (refresh g) b u t) t)
new_made b interval ring u t slow few fits =
    let m = length b.lines in
    let n = greatest_power m in
    let d = life_of interval n (left b) in
    let g = new_registers n interval ring in
    let pays = life_pays interval n (left b) fits.paced fits.lives in
    let is : paid_life d 0 (d + d / interval + n / 2) (0 + 0 + left b) ≡ d = paid_yes d 0 (d + d / interval + n / 2) (0 + 0 + left b) (omega arith) in
    let lives = fits.lives in
    record {
      new = record {
        paced = fits.paced;
        short = slow;
        keys = (fits.two, fits.short);
        size = greatest_computed m (count_some m fits.wide) few;
        wide = fits.wide;
        new = refl;
        lines = refl;
        taken = refl;
        life = subst (λ x. GreatestLife interval n (left b) x) (sym is) (life_greatest interval n (left b) fits.paced);
        lives = omega arith;
      };
      wear = refl;
      pile = refl;
    }

-- the same by what the making computes, of the count and the rest of the life below
pub layer_made : {A : Type 0} (b : Array A) (g : Registers) (interval count room size life : ℕ) (ring : List ℕ) (survey : Result (Unit {0}) Denial) (u : ℕ) (t : Pile A) → interval ≤ 65535 → count ≤ 4096
    → count ≡ length b.lines → room ≡ left b → survey ≡ refresh_survey (length ring) interval count room → is_err survey ≡ false
    → size ≡ greatest_power count → life ≡ life_of interval size room → g ≡ new_registers size interval ring
    → Made (new_registers (greatest_power (length b.lines)) interval ring) (refresh_array g life 0 b) b u u (over (refresh g) b u t) t
layer_made {A} b g interval count room size life ring survey u t slow few ec er asked answered es el eg =
    let m = length b.lines in
    let n = greatest_power m in
    let h = new_registers n interval ring in
    let size_is : size ≡ n = es ∙ ap greatest_power ec in
    let life_is : life ≡ life_of interval n (left b) = el ∙ ap (λ x. life_of interval x room) size_is ∙ ap (λ r. life_of interval n r) er in
    let surveyed = subst (λ r. is_err (refresh_survey (length ring) interval m r) ≡ false) er (subst (λ c. is_err (refresh_survey (length ring) interval c room) ≡ false) ec (sym (ap is_err asked) ∙ answered)) in
    let fits = survey_yes (length ring) interval m (left b) surveyed in
    let made = subst (λ d. Made h (refresh_array h d 0 b) b u u (over (refresh h) b u t) t) (sym life_is) (new_made b interval ring u t slow (omega arith) fits) in
    subst (λ (x : Registers). Made h (refresh_array x life 0 b) b u u (over (refresh x) b u t) t) (sym (eg ∙ ap (λ x. new_registers x interval ring) size_is)) made

-- ---- a layer that does not
no_lines : {A : Type 0} (f : ℕ → ℕ) (ls : List A) → placed_lines 0 0 f ls ≡ []
unfolding placed_lines
no_lines {A} f ls = elim (leb 0 (length ls)) as (λ x. cond {A = List A} x [] [] ≡ []) [ true ↦ refl | false ↦ refl ]

no_life : (cost room : ℕ) → paid_life 0 0 cost room ≡ 0
unfolding paid_life
no_life cost room = elim (leb cost room) as (λ x. cond {A = ℕ} x 0 0 ≡ 0) [ true ↦ refl | false ↦ refl ]

pub layer_unfit : {A : Type 0} (b : Array A) (g : Registers) (u : ℕ) (t : Pile A) → g.size ≡ 0 → g.copies ≡ 0
    → MadeUnfit g (refresh_array g 0 0 b) b u u (over (refresh g) b u t) t
layer_unfit {A} b g u t none copies =
    record {
      none = ap (λ (x : List A). record { lines = x; taken = 0; life = (refresh_array g 0 0 b).life }) (ap (λ n. placed_lines n n (place_of g.round) b.lines) none ∙ no_lines (place_of g.round) b.lines)
          ∙ ap (λ x. record { lines = []; taken = 0; life = x }) (no_life _ _);
      copies = copies;
      wear = refl;
      pile = refl;
    }

-- ---- what the fields say at first
pub bounded_none : (w : Round) (interval : ℕ) → 1 ≤ interval → w.pointer ≡ 0 → Bounded w 0 (0 / interval)
bounded_none w interval h e = let q = (quotient_small 0 interval h).0 in let b = bounded_first w e in omega arith
