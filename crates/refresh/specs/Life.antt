-- How many writes a refresh layer may take, by how many are left below. Assumes nothing.
use Rattle.std.specs.Prelude.{◌≡◌, ℕ, ◌+◌, ◌-◌, ◌/◌, ◌≤◌, ◌⊎◌}

-- d writes, and all the copies that they may bring among n lines, are paid by what is left below
abbrev pub Pays : ℕ → ℕ → ℕ → ℕ → Type 0
Pays interval n left d = d + d / interval + n / 2 ≤ left

-- the life: the greatest number of writes that is paid, or 0 if none is
pub record GreatestLife (interval n left life : ℕ) : Type 0 where
  pub pays : Pays interval n left life ⊎ (((d : ℕ) → Pays interval n left d → ⊥) × (life ≡ 0))
  pub greatest : (d : ℕ) → Pays interval n left d → d ≤ life

-- the greatest d with d + d / interval at most `left`: one in interval + 1 goes to a copy
abbrev pub payable : ℕ → ℕ → ℕ
payable interval left = left - (left + 1) / (interval + 1)

-- the life, computed
abbrev pub life_of : ℕ → ℕ → ℕ → ℕ
life_of interval n left = payable interval (left - n / 2)
