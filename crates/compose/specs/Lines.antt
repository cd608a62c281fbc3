-- The lines that say something, with their numbers. Assumes nothing.
use Rattle.std.specs.Prelude.{◌≡◌, ℕ, ◌+◌, ◌-◌, ◌^◌, min, Bool, false, cond, not, List, [], ◌∷◌, Some, None, Option, ◌==◌, slice_index}
use Rattle.compose.specs.declared.text.Line.{Line}
use Rattle.compose.specs.Pieces.{words, words_of}

-- a line that says something: its number and its words
pub record Entry : Type 0 where
  pub number : ℕ
  pub words : List (List ℕ)

-- the number after n; a number of 64 bits goes no further than this
abbrev pub next_number : ℕ → ℕ
next_number n = min (n + 1) (2 ^ 64 - 1)

-- whether words say something: there is a first, and it does not begin with #
abbrev pub is_entry : List (List ℕ) → Bool
is_entry [] = false
is_entry (w ∷ ws) = not (slice_index w 0 == 35)

-- the lines that say something, of those after line n
abbrev pub entries : ℕ → List (List ℕ) → List Entry
entries n [] = []
entries n (l ∷ ls) =
    cond (is_entry (words l)) (record { number = next_number n; words = words l } ∷ entries (next_number n) ls) (entries (next_number n) ls)

-- the number of the last of all the lines after line n
abbrev pub last_number : ℕ → List (List ℕ) → ℕ
last_number n [] = n
last_number n (l ∷ ls) = last_number (next_number n) ls

abbrev pub entry_of : Line → Entry
entry_of l = record { number = l.number; words = words_of l.words }

-- a line handed out, or none, between the lines ls after line n and the lines ls' after line n'
abbrev pub HandedLine : ℕ → List (List ℕ) → Option Line → ℕ → List (List ℕ) → Type 0
HandedLine n ls None n' ls' = (entries n ls ≡ []) × (ls' ≡ []) × (n' ≡ last_number n ls)
HandedLine n ls (Some l) n' ls' = (entries n ls ≡ entry_of l ∷ entries n' ls') × (last_number n' ls' ≡ last_number n ls)
