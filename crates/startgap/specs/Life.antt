-- The life of a layer of gap regions: how many writes it takes over what is left below it. Assumes nothing.
use Rattle.std.specs.Prelude.{ℕ, ◌+◌, ◌-◌, ◌*◌, ◌/◌, ◌%◌, ◌≤◌, min}

-- d writes and the copies that may follow them take at most `left` writes below
abbrev pub Pays : ℕ → ℕ → ℕ → Type 0
Pays left interval d = d + d / interval ≤ left

-- d is the greatest number of writes that are paid for
pub record GreatestLife (left interval d : ℕ) : Type 0 where
  pub pays : Pays left interval d
  pub greatest : (d' : ℕ) → Pays left interval d' → d' ≤ d

-- that number: `interval` writes for each interval + 1 writes below, and of the rest all but a move's
abbrev pub life_of : ℕ → ℕ → ℕ
life_of left interval = left / (interval + 1) * interval + min (left % (interval + 1)) (interval - 1)
