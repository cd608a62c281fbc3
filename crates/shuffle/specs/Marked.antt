-- The marked cases of the shuffles. Assumes nothing.
use Rattle.std.specs.Prelude.{◌≡◌, ℕ, List, [], ◌∷◌}
use Rattle.shuffle.specs.Feistel.{feistel_span, feistel_forward, feistel_back}

abbrev keys : List ℕ
keys = 1 ∷ 2 ∷ 3 ∷ []

-- with halves of 2 bits and the keys 1, 2 and 3
abbrev pub MarkedShuffle : Type 0
MarkedShuffle =
    (feistel_span 2 ≡ 16)
    × (feistel_forward 2 keys 0 ≡ 5)
    × (feistel_forward 2 keys 6 ≡ 9)
    × (feistel_forward 2 keys 15 ≡ 10)
    × (feistel_back 2 keys 5 ≡ 0)
    × (feistel_back 2 keys 9 ≡ 6)
    × (feistel_back 2 keys 10 ≡ 15)
