-- What a layer asks below. By the sum law d writes make at most d / interval copies, and d writes to one line make just as many;
-- so a number of writes is paid for, whatever the lines, exactly where d + d / interval is at most what is left.
use Rattle.std.proofs.Common.{◌≡◌, ℕ, zero, suc, ◌+◌, ◌*◌, ◌/◌, ◌<◌, ◌≤◌, Bool, true, false, cond, eqb, List, [], ◌∷◌, length, replicate, refl, ap, ⊎_elim, mul-le-mul_right, add-mul, le-div_iff_mul-le, div-mul-le_self, arith}
use native.Mathlib.Nat.{zero-div}
use Rattle.std.specs.List.{AllByRecursion}
use Rattle.std.proofs.lemmas.Bool.{cases_lt, eq-eqb}
use Rattle.line.specs.Copies.{Copy, times}
use Rattle.startgap.specs.Regions.{new_gaps, AllLines, gaps_after, gaps_copies}
use Rattle.startgap.specs.Life.{Pays, life_of}
use Rattle.startgap.specs.Theorems.{Fit, Lives}
use Rattle.startgap.proofs.Runs.{after_made, new_after_sum, new_moves}
use Rattle.startgap.proofs.Lives.{life_pays, life_greatest, greatest_life, life_only, life_within, life_narrow}

at_most_one : (b : Bool) → cond b 1 0 ≤ 1
at_most_one b = elim b as (λ v. cond v 1 0 ≤ 1) [ true ↦ omega arith | false ↦ omega arith ]

pub times_le_length : {X : Type 0} (part : X → ℕ) (n : ℕ) (xs : List X) → times part n xs ≤ length xs
times_le_length part n [] = omega arith
times_le_length part n (x ∷ xs) = let i = times_le_length part n xs in let o = at_most_one (eqb (part x) n) in omega arith

-- fewer writes are paid for where more are
pub pays_less : (left interval d e : ℕ) → 0 < interval → d ≤ e → Pays left interval e → Pays left interval d
pays_less left interval d e hi h p =
    let q : d / interval ≤ e / interval = (le-div_iff_mul-le {k = interval} {x = d / interval} {y = e} hi).1 (let m = div-mul-le_self d interval in omega arith) in
    omega arith

pub few_copies : (R K interval : ℕ) → Fit R K interval → (lines : List ℕ) → AllLines (new_gaps R K interval) lines
    → length (gaps_copies (new_gaps R K interval) lines) ≤ length lines / interval
few_copies R K interval f lines a =
    let g = new_gaps R K interval in
    let s = new_after_sum R K interval f lines a in
    let m : (gaps_after g lines).copies ≡ length (gaps_copies g lines) = let e = after_made g lines in omega arith in
    let n = ap (λ x. x * interval) m in
    (le-div_iff_mul-le {k = interval} {x = length (gaps_copies g lines)} {y = length lines} f.paced).1 (omega arith)

pub life_paid : (R K interval : ℕ) → Fit R K interval → (left : ℕ) (lines : List ℕ) → AllLines (new_gaps R K interval) lines
    → length lines ≤ life_of left interval
    → length lines + length (gaps_copies (new_gaps R K interval) lines) ≤ left
life_paid R K interval f left lines a h =
    let c = few_copies R K interval f lines a in
    let p = pays_less left interval (length lines) (life_of left interval) f.paced h (life_pays left interval f.paced) in
    omega arith

-- ---- at any moment, by the sum law: a life that is not used up pays for one copy more where a move is due
pub copies_paid : (life taken copies interval dues : ℕ) → 0 < interval → copies * interval + dues ≡ taken → taken ≤ life → copies ≤ life / interval
copies_paid life taken copies interval dues hi e h = (le-div_iff_mul-le {k = interval} {x = copies} {y = life} hi).1 (omega arith)

pub move_paid : (life taken copies interval dues due : ℕ) → 0 < interval → copies * interval + dues ≡ taken → due ≤ dues → due + 1 ≡ interval
    → taken < life → copies + 1 ≤ life / interval
move_paid life taken copies interval dues due hi e d m h =
    (le-div_iff_mul-le {k = interval} {x = copies + 1} {y = life} hi).1 (let p = add-mul copies 1 interval in omega arith)

-- ---- writes to line 0 alone
all_zero : (n d : ℕ) → 0 < n → AllByRecursion (λ line. line < n) (replicate d 0)
all_zero n zero h = tt
all_zero n (suc d) h = (h, all_zero n d h)

writes_to_zero : (K : ℕ) → 0 < K → (d : ℕ) → times (λ line. line / K) 0 (replicate d 0) ≡ d
writes_to_zero K h zero = refl
writes_to_zero K h (suc d) =
    let i = writes_to_zero K h d in
    let e : ◌≡◌ {A = ℕ} (cond (eqb (0 / K) 0) 1 0) 1 = ap (λ b. cond b 1 0) (eq-eqb (0 / K) 0 (zero-div K)) in
    omega arith

pub life_unpaid : (R K interval : ℕ) → Fit R K interval → 0 < R → (left d : ℕ) → life_of left interval < d
    → left < d + length (gaps_copies (new_gaps R K interval) (replicate d 0))
life_unpaid R K interval f r left d h =
    let g = new_gaps R K interval in
    let lines : List ℕ = replicate d 0 in
    let k = f.sized in
    let pos : 0 < R * K = let m = mul-le-mul_right K r in omega arith in
    let m = (new_moves R K interval f lines (all_zero (R * K) d pos) 0 r).0 in
    let w = ap (λ x. x / interval) (writes_to_zero K k d) in
    let l = times_le_length (λ (x : Copy). x.to / (K + 1)) 0 (gaps_copies g lines) in
    ⊎_elim
    (λ (q : left < d + d / interval). omega arith)
    (λ (q : d + d / interval ≤ left). let z = life_greatest left interval f.paced d q in absurd (omega arith))
    (cases_lt left (d + d / interval))

pub lives : Lives
lives =
    record {
      greatest = greatest_life;
      only = λ left interval d h. life_only left interval h d;
      within = life_within;
      narrow = life_narrow;
      paid = life_paid;
      unpaid = life_unpaid;
    }
