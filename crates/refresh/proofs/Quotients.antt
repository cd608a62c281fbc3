-- A quotient and a remainder, as the number rises by one: the remainder rises, or returns to 0 and the quotient rises.
use Rattle.std.proofs.Common.{◌≡◌, ℕ, suc, ◌+◌, ◌*◌, ◌/◌, ◌%◌, ◌<◌, ◌≤◌, ap, ◌∙◌, mod-lt, mod-eq_of_lt, add-mul, div-add-mod', le-div_iff_mul-le, add-one, arith}
use lib.Arith.{digits_div, digits_mod}

pub quotient_stays : (r n : ℕ) → r % n + 1 < n → (suc r / n ≡ r / n) × (suc r % n ≡ r % n + 1)
quotient_stays r n h =
    let f = div-add-mod' r n in
    let e : suc r ≡ r / n * n + (r % n + 1) = omega arith in
    (ap (λ x. x / n) e ∙ digits_div (r / n) h, ap (λ x. x % n) e ∙ digits_mod (r / n) h)

pub quotient_rises : (r n : ℕ) → 0 < n → n ≤ r % n + 1 → (suc r / n ≡ r / n + 1) × (suc r % n ≡ 0)
quotient_rises r n z h =
    let f = div-add-mod' r n in
    let l = mod-lt r z in
    let m = add-mul (r / n) 1 n in
    let e : suc r ≡ (r / n + 1) * n + 0 = omega arith in
    (ap (λ x. x / n) e ∙ digits_div (r / n + 1) z, ap (λ x. x % n) e ∙ digits_mod (r / n + 1) z)

-- the same of r + 1
pub next_stays : (r n : ℕ) → r % n + 1 < n → ((r + 1) / n ≡ r / n) × ((r + 1) % n ≡ r % n + 1)
next_stays r n h =
    let q = quotient_stays r n h in
    (ap (λ x. x / n) (add-one r) ∙ q.0, ap (λ x. x % n) (add-one r) ∙ q.1)

pub next_rises : (r n : ℕ) → 0 < n → n ≤ r % n + 1 → ((r + 1) / n ≡ r / n + 1) × ((r + 1) % n ≡ 0)
next_rises r n z h =
    let q = quotient_rises r n z h in
    (ap (λ x. x / n) (add-one r) ∙ q.0, ap (λ x. x % n) (add-one r) ∙ q.1)

pub quotient_small : (r n : ℕ) → r < n → (r / n ≡ 0) × (r % n ≡ r)
quotient_small r n h =
    let e : r ≡ 0 * n + r = omega arith in
    (ap (λ x. x / n) e ∙ digits_div 0 h, mod-eq_of_lt h)

pub quotient_mono : (a b n : ℕ) → 0 < n → a ≤ b → a / n ≤ b / n
quotient_mono a b n z h = let f = div-add-mod' a n in (le-div_iff_mul-le z).1 (omega arith)
