-- The greatest power of two that is not above a number. Assumes nothing.
use Rattle.std.specs.Prelude.{◌≡◌, ℕ, zero, suc, ◌*◌, ◌/◌, ◌^◌, ◌≤◌, cond, nat_lt}

abbrev pub PowerOfTwo : ℕ → Type 0
PowerOfTwo n = (k : ℕ) × (n ≡ 2 ^ k)

-- n is a power of two, it is not above m, and no power of two that is not above m is greater
pub record GreatestPower (m n : ℕ) : Type 0 where
  pub power : PowerOfTwo n
  pub within : n ≤ m
  pub greatest : (j : ℕ) → 2 ^ j ≤ m → 2 ^ j ≤ n

-- a number is halved until it is below 2, and 1 is doubled as often: at most `steps` times
unfoldable pub doubled : ℕ → ℕ → ℕ
doubled zero m = 1
doubled (suc steps) m = cond (nat_lt m 2) 1 (2 * doubled steps (m / 2))

-- the greatest power of two that is not above m, for m from 1 to 4,096
abbrev pub greatest_power : ℕ → ℕ
greatest_power m = doubled 12 m
