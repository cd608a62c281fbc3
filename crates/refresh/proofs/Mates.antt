-- How many lines have a mate above them, where mates differ by x. If x has a bit above its lowest, whether the mate is above does not
-- depend on the lowest bit, so the count below 2 m is twice that below m for x / 2; if x is 1, the even lines have their mate above.
-- By recursion on the number of bits: of all 2 ^ k lines exactly half if x is not 0, and of the first j at most j / 2 and a quarter of all.
use Rattle.std.proofs.Common.{◌≡◌, ℕ, zero, suc, ◌+◌, ◌*◌, ◌/◌, ◌%◌, ◌^◌, ◌<◌, ◌≤◌, cond, ltb, ◌≢◌, ◌⊎◌, sym, refl, ap, ◌∙◌, inl, inr, ⊎_elim, pow-suc, add-one, arith, pow_pos}
use Prim.Native.Nat.{differ}
use lib.Bits.{bit_xor, xor_zero_r, xor_step}
use Rattle.std.proofs.lemmas.Bool.{cases_lt, cases_eq, lt-ltb, le-ltb}
use Rattle.refresh.specs.Refresh.{mates_above}
use Rattle.refresh.proofs.Xors.{xor_none}

-- 1 where the mate of a is above it, else 0
abbrev pub above : ℕ → ℕ → ℕ
above x a = cond (ltb a (bit_xor a x)) 1 0

pub above_yes : (x a : ℕ) → a < bit_xor a x → above x a ≡ 1
above_yes x a h = ap (λ b. cond b 1 0) (lt-ltb a (bit_xor a x) h)

pub above_no : (x a : ℕ) → bit_xor a x ≤ a → above x a ≡ 0
above_no x a h = ap (λ b. cond b 1 0) (le-ltb a (bit_xor a x) h)

mates_suc : (x j : ℕ) → mates_above x (suc j) ≡ above x j + mates_above x j
unfolding mates_above
mates_suc x j = refl

pub mates_more : (x j : ℕ) → mates_above x (j + 1) ≡ above x j + mates_above x j
mates_more x j = ap (λ i. mates_above x i) (add-one j) ∙ mates_suc x j

pub mates_none : (x : ℕ) → mates_above x 0 ≡ 0
unfolding mates_above
mates_none x = refl

-- ---- the lowest bit
even_half : (m : ℕ) → m * 2 / 2 ≡ m
even_half m = omega arith

odd_half : (m : ℕ) → (m * 2 + 1) / 2 ≡ m
odd_half m = omega arith

even_bit : (m : ℕ) → m * 2 % 2 ≡ 0
even_bit m = omega arith

odd_bit : (m : ℕ) → (m * 2 + 1) % 2 ≡ 1
odd_bit m = omega arith

even_next : (m : ℕ) → suc m * 2 ≡ m * 2 + 1 + 1
even_next m = omega arith

even_or_odd : (j : ℕ) → (j ≡ j / 2 * 2) ⊎ (j ≡ j / 2 * 2 + 1)
even_or_odd j = ⊎_elim (λ (k : j % 2 < 1). inl (omega arith)) (λ (k : 1 ≤ j % 2). inr (omega arith)) (cases_lt (j % 2) 1)

differ_bit : (a b : ℕ) → a < 2 → b < 2 → differ a b < 2
differ_bit zero zero h k = omega arith
differ_bit zero (suc zero) h k = omega arith
differ_bit zero (suc (suc b)) h k = absurd (omega arith)
differ_bit (suc zero) zero h k = omega arith
differ_bit (suc zero) (suc zero) h k = omega arith
differ_bit (suc zero) (suc (suc b)) h k = absurd (omega arith)
differ_bit (suc (suc a)) b h k = absurd (omega arith)

-- it does not count where a higher one differs
above_half : (x a : ℕ) → x / 2 ≢ 0 → above x a ≡ above (x / 2) (a / 2)
above_half x a nz =
    let e = xor_step a x in
    let l = differ_bit (a % 2) (x % 2) (omega arith) (omega arith) in
    let ne : bit_xor (a / 2) (x / 2) ≢ a / 2 = λ q. nz (xor_none (a / 2) (x / 2) q) in
    ⊎_elim
    (λ (k : a / 2 < bit_xor (a / 2) (x / 2)). above_yes x a (omega arith) ∙ sym (above_yes (x / 2) (a / 2) k))
    (λ (k : bit_xor (a / 2) (x / 2) ≤ a / 2).
    ⊎_elim
    (λ (q : bit_xor (a / 2) (x / 2) ≡ a / 2). absurd (ne q))
    (λ nq. above_no x a (omega arith) ∙ sym (above_no (x / 2) (a / 2) k))
    (cases_eq (bit_xor (a / 2) (x / 2)) (a / 2)))
    (cases_lt (a / 2) (bit_xor (a / 2) (x / 2)))

mates_half : (x m : ℕ) → x / 2 ≢ 0 → mates_above x (m * 2) ≡ mates_above (x / 2) m * 2
mates_half x zero nz = mates_none x ∙ ap (λ i. i * 2) (sym (mates_none (x / 2)))
mates_half x (suc m) nz =
    let h = mates_half x m nz in
    let a = above_half x (m * 2) nz in
    let b = above_half x (m * 2 + 1) nz in
    let qa = ap (λ i. above (x / 2) i) (even_half m) in
    let qb = ap (λ i. above (x / 2) i) (odd_half m) in
    let s1 = mates_more x (m * 2) in
    let s2 = mates_more x (m * 2 + 1) in
    let s3 = mates_suc (x / 2) m in
    let s4 = ap (λ i. mates_above x i) (even_next m) in
    omega arith

-- ---- keys that are equal, and keys that differ in the lowest bit alone
pub mates_zero : (j : ℕ) → mates_above 0 j ≡ 0
mates_zero zero = mates_none 0
mates_zero (suc j) =
    let e = mates_suc 0 j in
    let h = mates_zero j in
    let z = xor_zero_r j in
    let n = above_no 0 j (omega arith) in
    omega arith

above_even : (m : ℕ) → above 1 (m * 2) ≡ 1
above_even m =
    let e = xor_step (m * 2) 1 in
    let z = xor_zero_r (m * 2 / 2) in
    let b = ap (λ i. differ i 1) (even_bit m) in
    above_yes 1 (m * 2) (omega arith)

above_odd : (m : ℕ) → above 1 (m * 2 + 1) ≡ 0
above_odd m =
    let e = xor_step (m * 2 + 1) 1 in
    let z = xor_zero_r ((m * 2 + 1) / 2) in
    let b = ap (λ i. differ i 1) (odd_bit m) in
    above_no 1 (m * 2 + 1) (omega arith)

mates_one : (m : ℕ) → mates_above 1 (m * 2) ≡ m
mates_one zero = mates_none 1
mates_one (suc m) =
    let h = mates_one m in
    let a = above_even m in
    let b = above_odd m in
    let s1 = mates_more 1 (m * 2) in
    let s2 = mates_more 1 (m * 2 + 1) in
    let s4 = ap (λ i. mates_above 1 i) (even_next m) in
    omega arith

mates_one_most : (j : ℕ) → 2 * mates_above 1 j ≤ j + 1
mates_one_most j =
    let m = j / 2 in
    let a = mates_one m in
    let b = above_even m in
    let s = mates_more 1 (m * 2) in
    ⊎_elim
    (λ (e : j ≡ j / 2 * 2). let q = ap (λ i. mates_above 1 i) e in omega arith)
    (λ (e : j ≡ j / 2 * 2 + 1). let q = ap (λ i. mates_above 1 i) e in omega arith)
    (even_or_odd j)

zero_or_one : (x : ℕ) → x / 2 ≡ 0 → (x ≡ 0) ⊎ (x ≡ 1)
zero_or_one x e = ⊎_elim (λ (k : x < 1). inl (omega arith)) (λ (k : 1 ≤ x). inr (omega arith)) (cases_lt x 1)

-- ---- of the first j lines at most half, and a quarter of all
pub mates_most : (k x j : ℕ) → x < 2 ^ k → 2 * mates_above x j ≤ j + 2 ^ k / 2
mates_most zero x j h =
    let e : x ≡ 0 = omega arith in
    let q = ap (λ i. mates_above i j) e ∙ mates_zero j in
    omega arith
mates_most (suc k) x j h =
    let p = pow-suc 2 k in
    let pos = pow_pos k in
    ⊎_elim
    (λ (z : x / 2 ≡ 0). ⊎_elim
    (λ (e : x ≡ 0). let q = ap (λ i. mates_above i j) e ∙ mates_zero j in omega arith)
    (λ (e : x ≡ 1). let q = ap (λ i. mates_above i j) e in let l = mates_one_most j in omega arith)
    (zero_or_one x z))
    (λ nz.
    let m = j / 2 in
    let a = mates_most k (x / 2) m (omega arith) in
    let b = mates_most k (x / 2) (m + 1) (omega arith) in
    let s = mates_half x m nz in
    let t = mates_more (x / 2) m in
    let u = mates_more x (m * 2) in
    let v = above_half x (m * 2) nz in
    let w = ap (λ i. above (x / 2) i) (even_half m) in
    ⊎_elim
    (λ (e : j ≡ j / 2 * 2). let q = ap (λ i. mates_above x i) e in omega arith)
    (λ (e : j ≡ j / 2 * 2 + 1). let q = ap (λ i. mates_above x i) e in omega arith)
    (even_or_odd j))
    (cases_eq (x / 2) 0)

-- ---- of all lines exactly half, where the keys differ
pub mates_all : (k x : ℕ) → x < 2 ^ k → x ≢ 0 → 2 * mates_above x (2 ^ k) ≡ 2 ^ k
mates_all zero x h nx = absurd (nx (omega arith))
mates_all (suc k) x h nx =
    let p = pow-suc 2 k in
    let q = ap (λ i. mates_above x i) p in
    ⊎_elim
    (λ (z : x / 2 ≡ 0). ⊎_elim
    (λ (e : x ≡ 0). absurd (nx e))
    (λ (e : x ≡ 1). let r = ap (λ i. mates_above i (2 ^ k * 2)) e ∙ mates_one (2 ^ k) in omega arith)
    (zero_or_one x z))
    (λ nz. let a = mates_all k (x / 2) (omega arith) nz in let s = mates_half x (2 ^ k) nz in omega arith)
    (cases_eq (x / 2) 0)
