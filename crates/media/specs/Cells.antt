-- The cell medium: what it means, its survey, and its memory after a write. Assumes nothing.
use Rattle.std.specs.Prelude.{◌≡◌, ℕ, List, [], Ok, Err, Result, slice_set}
use Rattle.line.specs.declared.denial.Denial.{Denial}
use Rattle.line.specs.declared.denial.Denial.TheVariants.{CountOutOfRange, LifeOutOfRange}
use Rattle.line.specs.Denials.{ask, in_range}
use Rattle.medium.specs.Array.{Array}

-- the first no of a medium's questions on its count and life, and then the rest
abbrev pub medium_survey : ℕ → ℕ → Result (Unit {0}) Denial → Result (Unit {0}) Denial
medium_survey count life rest = ask (in_range 1 4096 count) CountOutOfRange (ask (in_range 1 4294967295 life) LifeOutOfRange rest)

abbrev pub cell_survey : ℕ → ℕ → Result (Unit {0}) Denial
cell_survey count life = medium_survey count life (Ok tt)

-- the array that a cell medium means: its lines are the values
abbrev pub cell_array : {V : Type 0} → List V → ℕ → ℕ → Array V
cell_array cells taken life = record { lines = cells; taken = taken; life = life }

-- a making, by its survey: it means the array a, or one of no lines and life 0; either way none of its cells is worn yet
abbrev pub MadeAs : {A : Type 0} → Result (Unit {0}) Denial → Array A → Array A → ℕ → Type 0
MadeAs (Ok u) a made wear = (made ≡ a) × (wear ≡ 0)
MadeAs (Err d) a made wear = (made ≡ record { lines = []; taken = 0; life = 0 }) × (wear ≡ 0)

-- the values after a write of v to line i, by its answer: a denial alters none
abbrev pub cells_after : {V : Type 0} → Result ℕ Denial → List V → ℕ → V → List V
cells_after (Ok toll) cells i v = slice_set cells i v
cells_after (Err d) cells i v = cells
