-- Bytes that are appended to a vector in which there is room for them. Assumes nothing.
use Rattle.std.specs.Prelude.{◌≡◌, ℕ, ◌+◌, ◌≤◌, List, ◌++◌, length, vec_items, vec_len, vec_capacity, Vec}
use Rattle.std.specs.declared.alloc.Global.{Global}

-- there is room for n bytes more
abbrev pub HasRoom : Vec ℕ Global → ℕ → Type 0
HasRoom v n = vec_len v + n ≤ vec_capacity v

-- the bytes were appended, and the capacity did not shrink
pub record Puts (before : Vec ℕ Global) (bytes : List ℕ) (after : Vec ℕ Global) : Type 0 where
  pub items : vec_items after ≡ vec_items before ++ bytes
  pub len : vec_len after ≡ vec_len before + length bytes
  pub capacity : vec_capacity before ≤ vec_capacity after
