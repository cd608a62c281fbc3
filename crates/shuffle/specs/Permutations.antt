-- Permutations of the numbers below a bound, and pairs of them that undo each other. Assumes nothing.
use Rattle.std.specs.Prelude.{◌≡◌, ℕ, ◌<◌, ◌≤◌, cond, nat_lt}

-- f of a number below n; any other number stays
abbrev pub below : ℕ → (ℕ → ℕ) → ℕ → ℕ
below n f x = cond (nat_lt x n) (f x) x

-- f is a permutation of the numbers below n
pub record Permutes (n : ℕ) (f : ℕ → ℕ) : Type 0 where
  pub within : (x : ℕ) → x < n → f x < n
  pub injective : (x y : ℕ) → x < n → y < n → f x ≡ f y → x ≡ y
  pub onto : (y : ℕ) → y < n → (x : ℕ) × (x < n) × (f x ≡ y)

-- forward and back stay below n, and each undoes the other; any other number stays
pub record Undoes (n : ℕ) (forward back : ℕ → ℕ) : Type 0 where
  pub stays : (x : ℕ) → x < n → forward x < n
  pub back_stays : (x : ℕ) → x < n → back x < n
  pub undone : (x : ℕ) → x < n → back (forward x) ≡ x
  pub back_undone : (x : ℕ) → x < n → forward (back x) ≡ x
  pub rest : (x : ℕ) → n ≤ x → forward x ≡ x
  pub back_rest : (x : ℕ) → n ≤ x → back x ≡ x
