-- The greatest power of two as the code finds it. Below 2 nothing is halved; from 4,096 on each of the twelve halvings leaves 2 or more,
-- so 1 is doubled twelve times.
use Rattle.std.proofs.Common.{◌≡◌, ℕ, zero, suc, ◌*◌, ◌/◌, ◌^◌, ◌<◌, ◌≤◌, cond, max, min, refl, ap, ◌∙◌, ⊎_elim, pow-suc, arith, pow_pos}
use Rattle.std.proofs.lemmas.Bool.{cases_lt, lt-ltb, le-ltb}
use Rattle.refresh.specs.Powers.{doubled, greatest_power}
use Rattle.refresh.proofs.Powers.{greatest_shift}

pub power_small : (m : ℕ) → m < 2 → greatest_power m ≡ 1
unfolding doubled
power_small m h = ap (λ b. cond b 1 (2 * doubled 11 (m / 2))) (lt-ltb m 2 h)

doubled_whole : (s m : ℕ) → 2 ^ s ≤ m → doubled s m ≡ 2 ^ s
unfolding doubled
doubled_whole zero m h = refl
doubled_whole (suc s) m h =
    let p = pow-suc 2 s in
    let z = pow_pos s in
    let ih = doubled_whole s (m / 2) (omega arith) in
    let e = ap (λ b. cond b 1 (2 * doubled s (m / 2))) (le-ltb m 2 (omega arith)) in
    e ∙ omega arith

power_large : (m : ℕ) → 4096 ≤ m → greatest_power m ≡ 4096
power_large m h = doubled_whole 12 m h

-- 2 ^ k, where k is the position of the highest bit of m once that is cut to the range from 1 to 4,096
pub power_shift : (m k : ℕ) → 2 ^ k ≤ max 1 (min m 4096) → max 1 (min m 4096) < 2 * 2 ^ k → 2 ^ k ≡ greatest_power m
power_shift m k low high = ⊎_elim
    (λ (z : m < 1). let p = pow_pos k in let e = power_small m (omega arith) in omega arith)
    (λ (z : 1 ≤ m). ⊎_elim
    (λ (l : 4096 < m).
    let whole = greatest_shift 4096 k (omega arith) (omega arith) (omega arith) in
    let e = power_large 4096 (omega arith) in
    let f = power_large m (omega arith) in
    omega arith)
    (λ (l : m ≤ 4096). greatest_shift m k l (omega arith) (omega arith))
    (cases_lt 4096 m))
    (cases_lt m 1)
