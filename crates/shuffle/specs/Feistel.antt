-- The Feistel shuffle: a network of one stage for each key. Assumes nothing.
use Rattle.std.specs.Prelude.{ℕ, ◌*◌, ◌%◌, ◌^◌, List, map, bit_xor}
use Rattle.shuffle.specs.Network.{network_span, network_forward, network_back}

abbrev square : ℕ → ℕ
square m = m * m

-- the round function of a key: the low n bits of the square of l xor the key's low n bits
abbrev pub round : ℕ → ℕ → ℕ → ℕ
round n key l = square (bit_xor l (key % 2 ^ n)) % 2 ^ n

abbrev pub feistel_span : ℕ → ℕ
feistel_span n = network_span n

abbrev pub feistel_forward : ℕ → List ℕ → ℕ → ℕ
feistel_forward n keys = network_forward n (map (round n) keys)

abbrev pub feistel_back : ℕ → List ℕ → ℕ → ℕ
feistel_back n keys = network_back n (map (round n) keys)
