-- Numbers as bytes, the lowest byte first. Assumes nothing.
use Rattle.std.specs.Prelude.{ℕ, ◌+◌, ◌*◌, ◌/◌, ◌%◌, List, [], ◌∷◌, slice_index}

-- the number of 16, 32 or 64 bits that stands in bs from o on
abbrev pub at16 : List ℕ → ℕ → ℕ
at16 bs o = slice_index bs o + slice_index bs (o + 1) * 256

abbrev pub at32 : List ℕ → ℕ → ℕ
at32 bs o = slice_index bs o + slice_index bs (o + 1) * 256 + slice_index bs (o + 2) * 65536 + slice_index bs (o + 3) * 16777216

abbrev pub at64 : List ℕ → ℕ → ℕ
at64 bs o = at32 bs o + at32 bs (o + 4) * 4294967296

-- the bytes of a number of 16, 32 or 64 bits
abbrev pub bytes16 : ℕ → List ℕ
bytes16 v = (v % 256) ∷ (v / 256 % 256) ∷ []

abbrev pub bytes32 : ℕ → List ℕ
bytes32 v = (v % 256) ∷ (v / 256 % 256) ∷ (v / 65536 % 256) ∷ (v / 16777216 % 256) ∷ []

abbrev pub bytes64 : ℕ → List ℕ
bytes64 v =
    (v % 256) ∷ (v / 256 % 256) ∷ (v / 65536 % 256) ∷ (v / 16777216 % 256) ∷
    (v / 4294967296 % 256) ∷ (v / 1099511627776 % 256) ∷ (v / 281474976710656 % 256) ∷ (v / 72057594037927936 % 256) ∷ []
