-- Xoring with a number of n bits keeps n bits, and doing it twice changes nothing: so the key shuffle is its own undoing.
use Rattle.std.specs.Prelude.{ℕ, ◌%◌, ◌^◌, ◌<◌, ◌≤◌, bit_xor}
use Rattle.std.proofs.Common.{arith, pow_pos, pow_mono}
use Rattle.std.proofs.lemmas.Nat.{mod_below, xor_lt}
use Rattle.shuffle.specs.Permutations.{Undoes}
use Rattle.shuffle.specs.Key.{key_span, key_forward, key_back}
use Rattle.shuffle.specs.Powers.{xor_back}
use Rattle.shuffle.specs.Undoing.{below_undoes}

pub key_undoes : (n key : ℕ) → Undoes (key_span n) (key_forward n key) (key_back n key)
key_undoes n key =
    let low = key % 2 ^ n in
    let stays : (x : ℕ) → x < 2 ^ n → bit_xor x low < 2 ^ n = λ x h. xor_lt n x low h (mod_below key (2 ^ n) (pow_pos n)) in
    below_undoes (2 ^ n) (λ x. bit_xor x low) (λ x. bit_xor x low) stays stays (λ x h. xor_back x low) (λ x h. xor_back x low)

pub key_few : (n : ℕ) → n ≤ 12 → key_span n ≤ 4096
key_few n h = let m : 2 ^ n ≤ 2 ^ 12 = pow_mono h in omega arith
