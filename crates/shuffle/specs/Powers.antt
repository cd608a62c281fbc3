-- Powers of four as powers of two and as squares of them, and exclusive or: a number xored twice with the same number is itself.
use Rattle.std.specs.Prelude.{◌≡◌, ℕ, ◌+◌, ◌*◌, ◌%◌, ◌^◌, ◌<◌, ◌≤◌, bit_xor}
use Rattle.std.proofs.Common.{sym, ◌∙◌, ap, arith, pow-add, pow_mono}
use Rattle.std.specs.Int.Bits.{xor_assoc, xor_self, xor_zero_r}
use Rattle.std.proofs.lemmas.Nat.{mul-le, mul-pow}

pub xor_back : (a b : ℕ) → bit_xor (bit_xor a b) b ≡ a
xor_back a b = xor_assoc a b b ∙ ap (λ x. bit_xor a x) (xor_self b) ∙ xor_zero_r a

pub four_square : (n : ℕ) → 4 ^ n ≡ 2 ^ n * 2 ^ n
four_square n = mul-pow 2 2 n

pub four_twice : (n : ℕ) → 4 ^ n ≡ 2 ^ (n + n)
four_twice n = four_square n ∙ sym (pow-add 2 n n)

pub four_few : (n : ℕ) → n ≤ 6 → 4 ^ n ≤ 4096
four_few n h =
    let m : 2 ^ n ≤ 2 ^ 6 = pow_mono h in
    let q = mul-le (2 ^ n) (2 ^ n) 64 64 m m in
    let e = four_square n in
    omega arith

-- 4 ^ n as a shift of one by 2 n bits in 16
pub four_shl : (n : ℕ) → n ≤ 6 → (1 * 2 ^ (2 * n)) % 65536 ≡ 4 ^ n
four_shl n h =
    let e : 2 * n ≡ n + n = omega arith in
    let d = ap (λ k. 2 ^ k) e ∙ pow-add 2 n n in
    let f = four_square n in
    let l = four_few n h in
    omega arith

-- a number of at most 6 bits has a square that fits 16
pub square_fits : (n a : ℕ) → n ≤ 6 → a < 2 ^ n → a * a < 65536
square_fits n a h l =
    let m : 2 ^ n ≤ 2 ^ 6 = pow_mono h in
    let k : a ≤ 255 = omega arith in
    let q = mul-le a a 255 255 k k in
    omega arith
