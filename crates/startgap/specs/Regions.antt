-- A layer of gap regions: its registers, where each line is, which line is at each place, and what accepted writes make of them. Assumes nothing.
use Rattle.std.specs.Prelude.{ℕ, ◌+◌, ◌-◌, ◌*◌, ◌/◌, ◌%◌, ◌<◌, ◌≤◌, cond, List, [], ◌∷◌, ◌++◌, length, replicate, Some, None, sum_by, Option, nat_lt, slice_index_or, slice_set}
use Rattle.std.specs.List.{AllByRecursion}
use Rattle.startgap.specs.declared.row.Row.{Row}
use Rattle.line.specs.Copies.{Copy, times}
use Rattle.startgap.specs.Rows.{RowSound, new_row, row_place, row_holder, row_from, row_next, move_due, row_after}

-- ---- the registers
-- how many regions there are, how many lines each has, after how many writes one moves, their rows, and how many copies were made in all
pub record Gaps : Type 0 where
  pub regions : ℕ
  pub size : ℕ
  pub interval : ℕ
  pub rows : List Row
  pub copies : ℕ

-- the lines of each of R regions over M lines
abbrev pub region_size : ℕ → ℕ → ℕ
region_size M R = M / R - 1

-- new registers of R regions of K lines
abbrev pub new_gaps : ℕ → ℕ → ℕ → Gaps
new_gaps R K interval = record { regions = R; size = K; interval = interval; rows = replicate 16 (new_row K); copies = 0 }

-- what a read past the rows finds
abbrev pub no_row : Row
no_row = record { start = 0; gap = 0; due = 0 }

abbrev pub row_at : Gaps → ℕ → Row
row_at g region = slice_index_or g.rows region no_row

-- how many lines the regions have, and in how many places below
abbrev pub line_count : Gaps → ℕ
line_count g = g.regions * g.size

abbrev pub place_count : Gaps → ℕ
place_count g = g.regions * (g.size + 1)

-- the settings are in range, there is a row for each region, each row is in range, and no move is overdue
pub record GapsSound (g : Gaps) : Type 0 where
  pub sized : 0 < g.size
  pub paced : 0 < g.interval
  pub enough : g.regions ≤ length g.rows
  pub rows : (region : ℕ) → region < g.regions → RowSound g.size (row_at g region)
  pub dues : (region : ℕ) → region < g.regions → (row_at g region).due < g.interval

-- ---- the mapping
-- a line's region, and its offset there
abbrev pub split_line : ℕ → ℕ → ℕ × ℕ
split_line size line = (line / size, line % size)

-- the place of a line
unfoldable pub gap_place : Gaps → ℕ → ℕ
gap_place g line =
    (split_line g.size line).0 * (g.size + 1) + row_place g.size (row_at g (split_line g.size line).0) (split_line g.size line).1

-- the line at an offset of a region, if there is an offset
abbrev pub in_region : ℕ → ℕ → Option ℕ → Option ℕ
in_region size region None = None
in_region size region (Some offset) = Some (region * size + offset)

-- the line at a place: none at a region's gap, and none past the regions
unfoldable pub gap_holder : Gaps → ℕ → Option ℕ
gap_holder g place =
    cond (nat_lt place (place_count g))
    (in_region g.size (place / (g.size + 1)) (row_holder g.size (row_at g (place / (g.size + 1))) (place % (g.size + 1))))
    None

-- the place of a region's gap
abbrev pub gap_at : Gaps → ℕ → ℕ
gap_at g region = region * (g.size + 1) + (row_at g region).gap

-- ---- an accepted write
-- the copy that a move of a region makes
abbrev pub region_copy : Gaps → ℕ → Copy
region_copy g region =
    record {
      moved = region * g.size + row_next g.size (row_at g region);
      from = region * (g.size + 1) + row_from g.size (row_at g region);
      to = gap_at g region;
    }

-- the copies that follow an accepted write to a line: one where its region's move is due
unfoldable pub write_copies : Gaps → ℕ → List Copy
write_copies g line = cond (move_due g.interval (row_at g (line / g.size))) (region_copy g (line / g.size) ∷ []) []

-- the registers with another row for a region, and another count of copies
abbrev pub with_row : Gaps → ℕ → Row → ℕ → Gaps
with_row g region w copies =
    record { regions = g.regions; size = g.size; interval = g.interval; rows = slice_set g.rows region w; copies = copies }

-- the registers after an accepted write to a line, and the copies that follow it
unfoldable pub after_write : Gaps → ℕ → Gaps
after_write g line =
    with_row g (line / g.size) (row_after g.size g.interval (row_at g (line / g.size)))
    (cond (move_due g.interval (row_at g (line / g.size))) (g.copies + 1) g.copies)

-- ---- accepted writes, in their order, by the lines that they write
abbrev pub AllLines : Gaps → List ℕ → Type 0
AllLines g lines = AllByRecursion (λ line. line < line_count g) lines

-- the registers after them
unfoldable pub gaps_after : Gaps → List ℕ → Gaps
gaps_after g [] = g
gaps_after g (line ∷ lines) = gaps_after (after_write g line) lines

-- all copies that follow them, in order
unfoldable pub gaps_copies : Gaps → List ℕ → List Copy
gaps_copies g [] = []
gaps_copies g (line ∷ lines) = write_copies g line ++ gaps_copies (after_write g line) lines

-- ---- sums
-- the writes that all rows have taken since their last moves
abbrev pub total_due : List Row → ℕ
total_due rows = sum_by (λ w. w.due) rows

-- how many of the writes go to a region
abbrev pub writes_in : Gaps → ℕ → List ℕ → ℕ
writes_in g region lines = times (λ line. line / g.size) region lines

-- how many of the copies write a place of a region: its moves
abbrev pub moves_in : Gaps → ℕ → List Copy → ℕ
moves_in g region copies = times (λ k. k.to / (g.size + 1)) region copies
