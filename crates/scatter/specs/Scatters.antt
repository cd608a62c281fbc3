-- The scatter layer: its survey, its lines, and where they are. Assumes nothing.
use Rattle.std.specs.Prelude.{ℕ, List, cond, Some, None, Ok, Err, Option, Result, nat_le, nat_lt}
use Rattle.line.specs.declared.denial.Denial.{Denial}
use Rattle.line.specs.declared.denial.Denial.TheVariants.{NoSuchLine, TooFewLines, LifeOutOfRange}
use Rattle.line.specs.Denials.{ask}
use Rattle.medium.specs.Pile.{placed_lines}

-- the first no of the questions on a span over so many lines with so much life left
abbrev pub scatter_survey : ℕ → ℕ → ℕ → Result (Unit {0}) Denial
scatter_survey span count left = ask (nat_le span count) TooFewLines (ask (nat_le 1 left) LifeOutOfRange (Ok tt))

-- how many lines a scatter with that life has: its span, or none where it is unfit, and has no life
abbrev pub scatter_size : ℕ → ℕ → ℕ
scatter_size life span = cond (nat_le 1 life) span 0

-- the lines of a scatter with that life, whose shuffle has a span and a forward, over the lines below
abbrev pub scatter_lines : {A : Type 0} → ℕ → ℕ → (ℕ → ℕ) → List A → List A
scatter_lines life span forward below = placed_lines (scatter_size life span) (scatter_size life span) forward below

-- the place of a line of n, where the shuffle takes it
abbrev pub scatter_place : ℕ → (ℕ → ℕ) → ℕ → Result ℕ Denial
scatter_place n forward line = cond (nat_lt line n) (Ok (forward line)) (Err NoSuchLine)

-- the line at one of m places below: none past the n lines
abbrev pub scatter_holder : ℕ → ℕ → (ℕ → ℕ) → ℕ → Result (Option ℕ) Denial
scatter_holder m n back place = cond (nat_lt place m) (Ok (cond (nat_lt place n) (Some (back place)) None)) (Err NoSuchLine)
