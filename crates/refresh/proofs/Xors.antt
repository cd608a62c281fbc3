-- Exclusive or: a number xored twice with the same number is itself, so xoring with it is one to one, and a number that it does not
-- change is 0.
use Rattle.std.proofs.Common.{◌≡◌, ℕ, sym, ap, ◌∙◌}
use lib.Bits.{bit_xor, xor_assoc, xor_self, xor_zero_r, xor_zero_l}

pub xor_back : (a b : ℕ) → bit_xor (bit_xor a b) b ≡ a
xor_back a b = xor_assoc a b b ∙ ap (λ x. bit_xor a x) (xor_self b) ∙ xor_zero_r a

pub xor_apart : (a b c : ℕ) → bit_xor a c ≡ bit_xor b c → a ≡ b
xor_apart a b c e = sym (xor_back a c) ∙ ap (λ x. bit_xor x c) e ∙ xor_back b c

pub xor_none : (a d : ℕ) → bit_xor a d ≡ a → d ≡ 0
xor_none a d e =
    sym (xor_zero_l d) ∙ ap (λ x. bit_xor x d) (sym (xor_self a)) ∙ xor_assoc a a d ∙ ap (λ x. bit_xor a x) e ∙ xor_self a

-- numbers whose exclusive or is 0 are equal
pub xor_zero : (a b : ℕ) → bit_xor a b ≡ 0 → a ≡ b
xor_zero a b e = sym (xor_back a b) ∙ ap (λ x. bit_xor x b) e ∙ xor_zero_l b
