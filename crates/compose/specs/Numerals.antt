-- Decimal numerals. Assumes nothing.
use Rattle.std.specs.Prelude.{ℕ, ◌+◌, ◌-◌, ◌*◌, Bool, cond, ◌&&◌, List, [], ◌∷◌, ℤ, pos, neg_ℤ, Ok, Err, Result, ◌==◌, nat_le}
use Rattle.compose.specs.declared.refusal.Wrong.{Wrong}
use Rattle.compose.specs.declared.refusal.Wrong.TheVariants.{NotANumber, OutOfRange}

-- from 0 to 9
abbrev pub is_digit : ℕ → Bool
is_digit b = nat_le 48 b && nat_le b 57

-- the number v, with one digit more
abbrev pub longer : ℕ → ℕ → ℕ
longer v b = v * 10 + (b - 48)

-- the number v goes on with the digits bs, and becomes no greater than this
abbrev pub number_after : ℕ → ℕ → List ℕ → Result ℕ Wrong
number_after greatest v [] = Ok v
number_after greatest v (b ∷ bs) =
    cond (is_digit b) (cond (nat_le (longer v b) greatest) (number_after greatest (longer v b) bs) (Err OutOfRange)) (Err NotANumber)

-- the number that a word spells, or the first thing that is wrong with it
abbrev pub number : ℕ → List ℕ → Result ℕ Wrong
number greatest [] = Err NotANumber
number greatest (b ∷ bs) = number_after greatest 0 (b ∷ bs)

-- the numbers, as they are or below 0
abbrev pub positive : Result ℕ Wrong → Result ℤ Wrong
positive (Ok n) = Ok (pos n)
positive (Err e) = Err e

abbrev pub negative : Result ℕ Wrong → Result ℤ Wrong
negative (Ok n) = Ok (neg_ℤ (pos n))
negative (Err e) = Err e

-- the number of 32 bits that a word spells: digits, with a minus sign before them or without
abbrev pub integer : List ℕ → Result ℤ Wrong
integer [] = Err NotANumber
integer (b ∷ bs) = cond (b == 45) (negative (number 2147483648 bs)) (positive (number 2147483647 (b ∷ bs)))
