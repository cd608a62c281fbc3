-- One region of K lines in K + 1 places, by its row: where each line is, which line is at each place, and the row after a write. Assumes nothing.
use Rattle.std.specs.Prelude.{ℕ, ◌+◌, ◌-◌, ◌%◌, ◌<◌, ◌≤◌, Bool, cond, Some, None, Option, ◌==◌, nat_lt}
use Rattle.startgap.specs.declared.row.Row.{Row}

-- the start is below K, and the gap is one of the K + 1 places
abbrev pub RowSound : ℕ → Row → Type 0
RowSound K w = (w.start < K) × (w.gap ≤ K)

-- the row of a new region
abbrev pub new_row : ℕ → Row
new_row K = record { start = 0; gap = K; due = 0 }

-- ---- the mapping
-- an offset, rotated by the start
abbrev pub rotated : ℕ → Row → ℕ → ℕ
rotated K w offset = (offset + w.start) % K

-- the place of the line at an offset: from the gap on, places are one higher
unfoldable pub row_place : ℕ → Row → ℕ → ℕ
row_place K w offset = cond (nat_lt (rotated K w offset) w.gap) (rotated K w offset) (rotated K w offset + 1)

-- the offset of the line at a place that is not the gap
unfoldable pub row_line : ℕ → Row → ℕ → ℕ
row_line K w place = (cond (nat_lt place w.gap) place (place - 1) + (K - w.start)) % K

-- the offset of the line at a place; none at the gap
unfoldable pub row_holder : ℕ → Row → ℕ → Option ℕ
row_holder K w place = cond (place == w.gap) None (Some (row_line K w place))

-- ---- writes and moves
-- the place that a move reads; it writes the gap
unfoldable pub row_from : ℕ → Row → ℕ
row_from K w = cond (nat_lt 0 w.gap) (w.gap - 1) K

-- the offset of the line that a move moves
abbrev pub row_next : ℕ → Row → ℕ
row_next K w = row_line K w (row_from K w)

-- does the next write make the region move?
abbrev pub move_due : ℕ → Row → Bool
move_due interval w = w.due + 1 == interval

-- the row after a write that is only counted
abbrev pub row_counted : Row → Row
row_counted w = record { start = w.start; gap = w.gap; due = w.due + 1 }

-- the row after a write that makes the region move: the gap is where the move read
unfoldable pub row_moved : ℕ → Row → Row
row_moved K w = record { start = cond (nat_lt 0 w.gap) w.start ((w.start + 1) % K); gap = row_from K w; due = 0 }

-- the row after an accepted write
abbrev pub row_after : ℕ → ℕ → Row → Row
row_after K interval w = cond (move_due interval w) (row_moved K w) (row_counted w)
