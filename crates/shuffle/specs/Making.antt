-- The makings of shuffles. Assumes nothing.
use Rattle.std.specs.Prelude.{◌≡◌, ℕ, ◌≤◌, MatchResult, Result}
use Rattle.line.specs.declared.denial.Denial.{Denial}
use Rattle.line.specs.declared.denial.Denial.TheVariants.{SettingsOutOfRange}

-- a making that asks whether n is from 1 to `most`: one is made just where it is, else it is denied with 6
abbrev pub MadeInRange : {X : Type 0} → ℕ → ℕ → Result X Denial → Type 0
MadeInRange most n r = MatchResult r (λ _. (1 ≤ n) × (n ≤ most)) (λ e. (e ≡ SettingsOutOfRange) × ((1 ≤ n) × (n ≤ most) → ⊥))
