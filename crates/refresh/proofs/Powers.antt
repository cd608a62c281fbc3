-- The greatest power of two. Halving a number until it is below 2, and doubling 1 as often, leaves a power of two n with n ≤ m < 2 n, by
-- induction; and a power of two above such an n is at least 2 n, so that n is the greatest, and the only one.
use Rattle.std.proofs.Common.{◌≡◌, ℕ, zero, suc, ◌*◌, ◌/◌, ◌^◌, ◌<◌, ◌≤◌, cond, sym, refl, ap, subst, ⊎_elim, pow-suc, arith, pow_pos, pow_mono}
use Rattle.std.proofs.lemmas.Bool.{cases_lt, lt-ltb, le-ltb}
use Rattle.refresh.specs.Powers.{GreatestPower, doubled, greatest_power}

-- a power of two that is not above m, and whose double is, is the greatest
pub greatest_from : (m k : ℕ) → 2 ^ k ≤ m → m < 2 * 2 ^ k → GreatestPower m (2 ^ k)
greatest_from m k low high =
    record {
      power = (k, refl);
      within = low;
      greatest = λ j h. ⊎_elim
          (λ (l : k < j). let p = pow-suc 2 k in let g : 2 ^ suc k ≤ 2 ^ j = pow_mono l in absurd (omega arith))
          (λ (l : j ≤ k). pow_mono l)
          (cases_lt k j);
    }

pub greatest_one : (m a b : ℕ) → GreatestPower m a → GreatestPower m b → a ≡ b
greatest_one m a b g h =
    let ea = g.power.1 in
    let eb = h.power.1 in
    let la = g.within in
    let lb = h.within in
    let x = g.greatest h.power.0 (omega arith) in
    let y = h.greatest g.power.0 (omega arith) in
    omega arith

doubled_small : (s m : ℕ) → m < 2 → doubled (suc s) m ≡ 1
unfolding doubled
doubled_small s m h = ap (λ b. cond b 1 (2 * doubled s (m / 2))) (lt-ltb m 2 h)

doubled_large : (s m : ℕ) → 2 ≤ m → doubled (suc s) m ≡ 2 * doubled s (m / 2)
unfolding doubled
doubled_large s m h = ap (λ b. cond b 1 (2 * doubled s (m / 2))) (le-ltb m 2 h)

doubled_none : (m : ℕ) → doubled 0 m ≡ 1
unfolding doubled
doubled_none m = refl

doubled_is : (s m : ℕ) → 1 ≤ m → m < 2 * 2 ^ s → (k : ℕ) × (doubled s m ≡ 2 ^ k) × (2 ^ k ≤ m) × (m < 2 * 2 ^ k)
doubled_is zero m h l = (0, doubled_none m, h, l)
doubled_is (suc s) m h l = ⊎_elim
    (λ (x : m < 2). (0, doubled_small s m x, h, x))
    (λ (x : 2 ≤ m).
    let p = pow-suc 2 s in
    let ih = doubled_is s (m / 2) (omega arith) (omega arith) in
    let k = ih.0 in
    let e = ih.1 in
    let low = ih.2 in
    let high = ih.3 in
    let q = pow-suc 2 k in
    let d = doubled_large s m x in
    (suc k, omega arith, omega arith, omega arith))
    (cases_lt m 2)

pub greatest_computed : (m : ℕ) → 1 ≤ m → m ≤ 4096 → GreatestPower m (greatest_power m)
greatest_computed m h l =
    let d = doubled_is 12 m h (omega arith) in
    subst (λ n. GreatestPower m n) (sym d.1) (greatest_from m d.0 d.2 d.3)

pub greatest_only : (m n : ℕ) → 1 ≤ m → m ≤ 4096 → GreatestPower m n → n ≡ greatest_power m
greatest_only m n h l g = greatest_one m n (greatest_power m) g (greatest_computed m h l)

pub greatest_two : (m : ℕ) → 2 ≤ m → m ≤ 4096 → 2 ≤ greatest_power m
greatest_two m h l = (greatest_computed m (omega arith) l).greatest 1 h

-- 2 ^ k, where k is the position of the highest bit of m
pub greatest_shift : (m k : ℕ) → m ≤ 4096 → 2 ^ k ≤ m → m < 2 * 2 ^ k → 2 ^ k ≡ greatest_power m
greatest_shift m k l low high = let p = pow_pos k in greatest_only m (2 ^ k) (omega arith) l (greatest_from m k low high)
