-- The number of each denial, and questions that are asked in order. Assumes nothing.
use Rattle.std.specs.Prelude.{ℕ, Bool, false, cond, Ok, Err, Result, nat_le}
use Rattle.line.specs.declared.denial.Denial.{Denial}
use Rattle.line.specs.declared.denial.Denial.TheVariants.{NoSuchLine, LifeUsed, CountOutOfRange, LifeOutOfRange, WrongLength, SettingsOutOfRange, TooFewLines, FileLength, NoMark, BadDistances, UnknownPile, TooManyRequests, UnknownRequest, RequestCutShort, RequestsMiscounted}

abbrev pub number : Denial → ℕ
number NoSuchLine = 1
number LifeUsed = 2
number CountOutOfRange = 3
number LifeOutOfRange = 4
number WrongLength = 5
number SettingsOutOfRange = 6
number TooFewLines = 7
number FileLength = 8
number NoMark = 9
number BadDistances = 10
number UnknownPile = 11
number TooManyRequests = 12
number UnknownRequest = 13
number RequestCutShort = 14
number RequestsMiscounted = 15

-- the number of an answer: 0 where the call was carried out
abbrev pub answer_number : {X : Type 0} → Result X Denial → ℕ
answer_number (Ok x) = 0
answer_number (Err d) = number d

-- a question: where the answer is no, it denies, else the rest is asked
abbrev pub ask : Bool → Denial → Result (Unit {0}) Denial → Result (Unit {0}) Denial
ask answer d rest = cond answer rest (Err d)

-- is n from low to high?
abbrev pub in_range : ℕ → ℕ → ℕ → Bool
in_range low high n = cond (nat_le low n) (nat_le n high) false
