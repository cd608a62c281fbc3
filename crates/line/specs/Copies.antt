-- Copies of lines from place to place, and how often a list of them moves a line or writes a place. Assumes nothing.
use Rattle.std.specs.Prelude.{ℕ, ◌+◌, cond, List, [], ◌∷◌, ◌==◌}

-- one copy: the line that it moves, the place that it reads and the place that it writes
pub record Copy : Type 0 where
  pub moved : ℕ
  pub from : ℕ
  pub to : ℕ

-- what a read past a list of copies finds
abbrev pub no_copy : Copy
no_copy = record { moved = 0; from = 0; to = 0 }

-- how many of xs have n as their part
abbrev pub times : {X : Type 0} → (X → ℕ) → ℕ → List X → ℕ
times part n [] = 0
times part n (x ∷ xs) = cond (part x == n) 1 0 + times part n xs

-- how often a line is moved
abbrev pub times_moved : ℕ → List Copy → ℕ
times_moved line copies = times (λ k. k.moved) line copies

-- how often a place is copied into
abbrev pub times_into : ℕ → List Copy → ℕ
times_into place copies = times (λ k. k.to) place copies

-- what place q holds once each copy has written, in order, what its place read held in `read`
abbrev pub written : {A : Type 0} → (ℕ → A) → List Copy → (ℕ → A) → ℕ → A
written read [] held q = held q
written read (k ∷ ks) held q = written read ks (λ p. cond (p == k.to) (read k.from) (held p)) q

-- what place q holds after copies whose reads all come before the first write
abbrev pub after_copies : {A : Type 0} → (ℕ → A) → List Copy → ℕ → A
after_copies held ks = written held ks held
