-- The key shuffle: a number of n bits xor a key. Assumes nothing.
use Rattle.std.specs.Prelude.{ℕ, ◌%◌, ◌^◌, bit_xor}
use Rattle.shuffle.specs.Permutations.{below}

abbrev pub key_span : ℕ → ℕ
key_span n = 2 ^ n

-- where a number goes: it is xored with the key's low n bits
abbrev pub key_forward : ℕ → ℕ → ℕ → ℕ
key_forward n key = below (key_span n) (λ x. bit_xor x (key % 2 ^ n))

-- and where it came from: the same
abbrev pub key_back : ℕ → ℕ → ℕ → ℕ
key_back n key = key_forward n key
