-- The byte medium: what it means, its survey, and its memory after a write. Assumes nothing.
use Rattle.std.specs.Prelude.{ℕ, zero, suc, ◌+◌, ◌*◌, cond, List, [], ◌∷◌, ◌++◌, length, take, drop, Ok, Err, sum, Result, ◌==◌, slice_index, slice_set}
use Rattle.line.specs.declared.denial.Denial.{Denial}
use Rattle.line.specs.declared.denial.Denial.TheVariants.{WrongLength}
use Rattle.line.specs.Denials.{ask}
use Rattle.medium.specs.Array.{Array}
use Rattle.media.specs.Cells.{medium_survey}

-- the first no of the questions on the counts, the life and the bytes, for lines of that width
abbrev pub byte_survey : ℕ → ℕ → ℕ → ℕ → Result (Unit {0}) Denial
byte_survey width count life long = medium_survey count life (ask (long == count * width) WrongLength (Ok tt))

-- n values, each read from the next w bytes
abbrev pub chunks : {V : Type 0} → (List ℕ → V) → ℕ → ℕ → List ℕ → List V
chunks reading w zero bs = []
chunks reading w (suc n) bs = reading (take w bs) ∷ chunks reading w n (drop w bs)

-- n lines of w bytes, where the bytes are just so many, else none
unfoldable pub lines_in : {V : Type 0} → (List ℕ → V) → ℕ → ℕ → List ℕ → List V
lines_in reading w n bs = cond (length bs == n * w) (chunks reading w n bs) []

-- the array that a byte medium means: each line is read from its bytes, and taken is the sum of the counts
abbrev pub byte_array : {V : Type 0} → (List ℕ → V) → ℕ → List ℕ → List ℕ → ℕ → Array V
byte_array reading w bs counts life = record { lines = lines_in reading w (length counts) bs; taken = sum counts; life = life }

-- bs with xs in the place of what stood there from a on
abbrev pub laid : List ℕ → ℕ → List ℕ → List ℕ
laid bs a xs = take a bs ++ (xs ++ drop (a + length xs) bs)

-- the bytes after a write of xs from a on, by its answer: a denial alters none
abbrev pub bytes_after : Result ℕ Denial → List ℕ → ℕ → List ℕ → List ℕ
bytes_after (Ok toll) bs a xs = laid bs a xs
bytes_after (Err d) bs a xs = bs

-- the counts after a write to line i, by its answer
abbrev pub counts_after : Result ℕ Denial → List ℕ → ℕ → List ℕ
counts_after (Ok toll) counts i = slice_set counts i (slice_index counts i + 1)
counts_after (Err d) counts i = counts
