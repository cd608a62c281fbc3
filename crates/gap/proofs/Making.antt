-- A new layer. Where each question of the survey is answered yes, the settings are in range, the places lie below, and the life is the
-- greatest that is paid for; where one is answered no, there are no regions, and so no lines.
use Rattle.std.proofs.Common.{◌≡◌, ℕ, ◌+◌, ◌*◌, ◌/◌, ◌≤◌, Bool, true, false, cond, leb, List, [], map, length, is_err, Ok, Err, Result, sym, refl, ap, ◌∙◌, subst, arith}
use Rattle.std.specs.List.{range_with_len}
use Rattle.line.specs.Denials.{ask, in_range}
use Rattle.line.specs.declared.denial.Denial.{Denial}
use Rattle.line.specs.declared.denial.Denial.TheVariants.{LifeOutOfRange, SettingsOutOfRange, TooFewLines}
use Rattle.startgap.specs.Life.{GreatestLife, life_of}
use Rattle.startgap.specs.Regions.{Gaps, region_size, new_gaps}
use Rattle.startgap.proofs.Lives.{greatest_life, life_pays}
use Rattle.medium.specs.Array.{Array}
use Rattle.medium.specs.Law.{left, Unfit}
use Rattle.medium.specs.Pile.{gaps, Pile, over, gathered, placed_lines, paid_life}
use Rattle.medium.proofs.Layers.{paid_yes}
use Rattle.gap.specs.Regions.{gap_lines, gap_life, gap_array, gap_survey, Made}

-- ---- the survey
asked_yes : (t : Bool) (d : Denial) (rest : Result (Unit {0}) Denial) → is_err (ask t d rest) ≡ false → (t ≡ true) × (is_err rest ≡ false)
asked_yes true d rest e = (refl, e)
asked_yes false d rest e = let z : ◌≡◌ {A = ℕ} 0 1 = cc in absurd (omega arith)

in_range_yes : (low high n : ℕ) → in_range low high n ≡ true → (low ≤ n) × (n ≤ high)
in_range_yes low high n e = (grind (arith, e), grind (arith, e))

leb_yes : (m n : ℕ) → leb m n ≡ true → m ≤ n
leb_yes m n e = grind (arith, e)

pub record Yes (R I n l : ℕ) : Type 0 where
  pub some : 1 ≤ R
  pub few : R ≤ 16
  pub paced : 1 ≤ I
  pub short : I ≤ 65535
  pub wide : 2 * R ≤ n
  pub lives : 1 ≤ life_of l I

pub survey_yes : (R I n l : ℕ) → is_err (gap_survey R I n l) ≡ false → Yes R I n l
survey_yes R I n l e =
    let q3 = ask (leb 1 (life_of l I)) LifeOutOfRange (Ok tt) in
    let q2 = ask (leb (2 * R) n) TooFewLines q3 in
    let q1 = ask (in_range 1 65535 I) SettingsOutOfRange q2 in
    let a = asked_yes (in_range 1 16 R) SettingsOutOfRange q1 e in
    let b = asked_yes (in_range 1 65535 I) SettingsOutOfRange q2 a.1 in
    let c = asked_yes (leb (2 * R) n) TooFewLines q3 b.1 in
    let d = asked_yes (leb 1 (life_of l I)) LifeOutOfRange (Ok tt) c.1 in
    let r = in_range_yes 1 16 R a.0 in
    let i = in_range_yes 1 65535 I b.0 in
    record {
      some = r.0;
      few = r.1;
      paced = i.0;
      short = i.1;
      wide = leb_yes (2 * R) n c.0;
      lives = leb_yes 1 (life_of l I) d.0;
    }

pub yes_not_no : (s : Result (Unit {0}) Denial) (d : Denial) → is_err s ≡ false → s ≡ Err d → ◌≡◌ {A = ℕ} 0 1
yes_not_no s d h e = cc (ap is_err e)

pub no_not_yes : (s : Result (Unit {0}) Denial) → is_err s ≡ true → s ≡ Ok tt → ◌≡◌ {A = ℕ} 0 1
no_not_yes s h e = cc (ap is_err e)

-- the same survey, of the numbers that are read off what lies below
pub surveyed : (R I n n' l l' : ℕ) → n ≡ n' → l ≡ l' → gap_survey R I n l ≡ gap_survey R I n' l'
surveyed R I n n' l l' en el = ap (λ x. gap_survey R I x l) en ∙ ap (λ x. gap_survey R I n' x) el

-- ---- a layer that fits
pub new_made : {A : Type 0} (b : Array A) (u : ℕ) (t : Pile A) (R I n l d : ℕ) (g : Gaps) → n ≡ length b.lines → l ≡ left b → Yes R I n l
    → d ≡ life_of l I → g ≡ new_gaps R (region_size n R) I
    → Made (new_gaps R (region_size (length b.lines) R) I) (gap_array g d 0 b) u (over (gaps g) b u t) b u t
new_made {A} b u t R I n l d g en el y ed eg =
    let same : g ≡ new_gaps R (region_size (length b.lines) R) I = eg ∙ ap (λ m. new_gaps R (region_size m R) I) en in
    let is : d ≡ life_of (left b) I = ed ∙ ap (λ m. life_of m I) el in
    let pays = life_pays (left b) I y.paced in
    let pays_d : d + d / I ≤ left b = subst (λ m. m + m / I ≤ left b) (sym is) pays in
    let lives = y.lives in
    let wide = y.wide in
    let life_is : gap_life g d 0 (left b) ≡ d =
    ap (λ (h : Gaps). gap_life h d 0 (left b)) same ∙ paid_yes d 0 (d + d / I) (0 + 0 + left b) (omega arith) in
    record {
      new =
          record {
            some = y.some;
            few = y.few;
            paced = y.paced;
            short = y.short;
            wide = omega arith;
            new = refl;
            lines = ap (λ (h : Gaps). gap_lines h b.lines) same;
            taken = refl;
            life = subst (GreatestLife (left b) I) (sym (life_is ∙ is)) (greatest_life (left b) I y.paced);
            lives = omega arith;
          };
      taken = refl;
      wear = refl;
      pile = ap (λ (h : Gaps). over (gaps h) b u t) same;
    }

-- ---- one that does not
pub none_placed : {A : Type 0} (f : ℕ → ℕ) (ls : List A) → placed_lines 0 0 f ls ≡ []
unfolding placed_lines
none_placed {A} f ls =
    elim (leb 0 (length ls)) as (λ b. cond b (gathered ls (map f (range_with_len 0 0))) [] ≡ []) [ true ↦ refl | false ↦ refl ]

pub none_paid : (cost left_below : ℕ) → paid_life 0 0 cost left_below ≡ 0
unfolding paid_life
none_paid cost left_below = elim (leb cost left_below) as (λ b. ◌≡◌ {A = ℕ} (cond b 0 0) 0) [ true ↦ refl | false ↦ refl ]

pub unfit_array : {A : Type 0} (b : Array A) → Unfit (gap_array (new_gaps 0 1 1) 0 0 b)
unfit_array {A} b = same_array _ _ (none_placed _ b.lines) (none_paid _ _)
  where
    same_array : (ls : List A) (d : ℕ) → ls ≡ [] → d ≡ 0 → ◌≡◌ {A = Array A} (record { lines = ls; taken = 0; life = d }) (record { lines = []; taken = 0; life = 0 })
    same_array ls d e f = ap (λ x. record { lines = x; taken = 0; life = d }) e ∙ ap (λ x. record { lines = []; taken = 0; life = x }) f
