-- A number split in two halves, as the code carries it: with their width. A stage keeps the width of the halves, since a round function answers
-- so many bits.
use Rattle.std.specs.Prelude.{ℕ, bit_xor}
use Rattle.std.proofs.lemmas.Nat.{xor_lt}
use Rattle.shuffle.specs.declared.feistel.Split.{Split}
use Rattle.shuffle.specs.Network.{Halves}
use Rattle.shuffle.specs.Feistel.{round}
use Rattle.shuffle.specs.Rounds.{round_narrow}

abbrev pub halves_of : Split → Halves
halves_of s = record { left = s.left; right = s.right }

-- the halves after the stage of a key
abbrev pub stage_of : Split → ℕ → Split
stage_of s key = record {
  width = s.width;
  left = bit_xor s.right (round s.width.bits key s.left);
  right = s.left;
  left_within = xor_lt s.width.bits s.right (round s.width.bits key s.left) s.right_within (round_narrow s.width.bits key s.left);
  right_within = s.left_within;
}

-- and before it
abbrev pub unstage_of : Split → ℕ → Split
unstage_of s key = record {
  width = s.width;
  left = s.right;
  right = bit_xor s.left (round s.width.bits key s.right);
  left_within = s.right_within;
  right_within = xor_lt s.width.bits s.left (round s.width.bits key s.right) s.left_within (round_narrow s.width.bits key s.right);
}
