-- What is proved of the registers, the mapping and the life. Assumes nothing.
use Rattle.std.specs.Prelude.{◌≡◌, ℕ, ◌+◌, ◌-◌, ◌*◌, ◌/◌, ◌%◌, ◌^◌, ◌<◌, ◌≤◌, cond, ◌≢◌, List, [], ◌∷◌, ◌++◌, length, replicate, Some, None, nat_le, slice_index_or}
use Rattle.startgap.specs.declared.row.Row.{Row}
use Rattle.line.specs.Copies.{Copy, no_copy, times_moved, times_into}
use Rattle.startgap.specs.Rows.{row_place, row_counted}
use Rattle.startgap.specs.Regions.{Gaps, GapsSound, region_size, new_gaps, row_at, line_count, place_count, gap_place, gap_holder, gap_at, region_copy, write_copies, after_write, AllLines, gaps_after, gaps_copies, total_due, writes_in, moves_in}
use Rattle.startgap.specs.Life.{GreatestLife, life_of}

-- ---- the regions over M lines
-- with at least two lines for each of R regions, each region has a line, all places are below M, and fewer than R lines rest
abbrev pub Sizes : Type 0
Sizes =
    (M R : ℕ) → 0 < R → 2 * R ≤ M
    → (0 < region_size M R) × (R * (region_size M R + 1) ≤ M) × (M < R * (region_size M R + 1) + R)

-- ---- places and holders
-- they undo each other: each line is held at its place and nowhere else, no two lines share a place,
-- and only each region's gap and the places past the regions hold none
pub record PlacesHeld (g : Gaps) : Type 0 where
  pub within : (line : ℕ) → line < line_count g → gap_place g line < place_count g
  pub held : (line : ℕ) → line < line_count g → gap_holder g (gap_place g line) ≡ Some line
  pub found : (place line : ℕ) → gap_holder g place ≡ Some line → (line < line_count g) × (gap_place g line ≡ place)
  pub apart : (i j : ℕ) → i < line_count g → j < line_count g → gap_place g i ≡ gap_place g j → i ≡ j
  pub gap_within : (region : ℕ) → region < g.regions → (gap_at g region < place_count g) × (gap_at g region / (g.size + 1) ≡ region)
  pub free : (region : ℕ) → region < g.regions → gap_holder g (gap_at g region) ≡ None
  pub only : (place : ℕ) → place < place_count g → gap_holder g place ≡ None → place ≡ gap_at g (place / (g.size + 1))
  pub rests : (place : ℕ) → place_count g ≤ place → gap_holder g place ≡ None

abbrev pub PlacesAndHolders : Type 0
PlacesAndHolders = (g : Gaps) → GapsSound g → PlacesHeld g

-- the mapping of N lines by the registers Start and Gap
abbrev pub start_gap : ℕ → ℕ → ℕ → ℕ → ℕ
start_gap N Start Gap LA = cond (nat_le Gap ((LA + Start) % N)) ((LA + Start) % N + 1) ((LA + Start) % N)

abbrev pub Mapping : Type 0
Mapping = (K : ℕ) (w : Row) (offset : ℕ) → row_place K w offset ≡ start_gap K w.start w.gap offset

-- ---- one accepted write, from the registers g to g', to a line of a region
-- the settings stay, and so do the rows of all other regions
pub record Kept (g g' : Gaps) (region : ℕ) : Type 0 where
  pub regions : g'.regions ≡ g.regions
  pub size : g'.size ≡ g.size
  pub interval : g'.interval ≡ g.interval
  pub row_count : length g'.rows ≡ length g.rows
  pub others : (other : ℕ) → other ≢ region → row_at g' other ≡ row_at g other

-- it makes no move: no copy, every place and holder as it was, one more write due
pub record Counted (g : Gaps) (line : ℕ) (g' : Gaps) (region : ℕ) : Type 0 where
  pub kept : Kept g g' region
  pub none : write_copies g line ≡ []
  pub made : g'.copies ≡ g.copies
  pub row : row_at g' region ≡ row_counted (row_at g region)
  pub places : (any : ℕ) → gap_place g' any ≡ gap_place g any
  pub holders : (place : ℕ) → gap_holder g' place ≡ gap_holder g place

-- the region moves by the copy k: from the place before the gap, or from the last place where the gap is the first, into the gap;
-- the line that was at the place read is now at the place written, every other line is where it was, and the gap is the place read;
-- no other place changes its holder
pub record Moved (g : Gaps) (line : ℕ) (g' : Gaps) (region : ℕ) (k : Copy) : Type 0 where
  pub kept : Kept g g' region
  pub one : write_copies g line ≡ k ∷ []
  pub made : g'.copies ≡ g.copies + 1
  pub row_above : 0 < (row_at g region).gap
      → row_at g' region ≡ record { start = (row_at g region).start; gap = (row_at g region).gap - 1; due = 0 }
  pub row_zero : (row_at g region).gap ≡ 0
      → row_at g' region ≡ record { start = ((row_at g region).start + 1) % g.size; gap = g.size; due = 0 }
  pub from_above : 0 < (row_at g region).gap → k.from + 1 ≡ k.to
  pub from_zero : (row_at g region).gap ≡ 0 → (k.to ≡ region * (g.size + 1)) × (k.from ≡ k.to + g.size)
  pub within : k.moved < line_count g
  pub holder : gap_holder g k.from ≡ Some k.moved
  pub from : gap_place g k.moved ≡ k.from
  pub into : k.to ≡ gap_at g region
  pub arrived : gap_place g' k.moved ≡ k.to
  pub others : (other : ℕ) → other < line_count g → other ≢ k.moved → gap_place g' other ≡ gap_place g other
  pub gap : gap_at g' region ≡ k.from
  pub held : gap_holder g' k.to ≡ Some k.moved
  pub freed : gap_holder g' k.from ≡ None
  pub holders : (place : ℕ) → place ≢ k.from → place ≢ k.to → gap_holder g' place ≡ gap_holder g place

-- a write makes the region move exactly when it is the last of an interval
pub record Writes : Type 0 where
  pub counts : (g : Gaps) → GapsSound g → (line : ℕ) → line < line_count g → (row_at g (line / g.size)).due + 1 ≢ g.interval
      → Counted g line (after_write g line) (line / g.size)
  pub moves : (g : Gaps) → GapsSound g → (line : ℕ) → line < line_count g → (row_at g (line / g.size)).due + 1 ≡ g.interval
      → Moved g line (after_write g line) (line / g.size) (region_copy g (line / g.size))

-- ---- any succession of accepted writes
-- settings that fit: at most 16 regions, of at least one line each, and an interval of at least 1
pub record Fit (R K interval : ℕ) : Type 0 where
  pub few : R ≤ 16
  pub sized : 0 < K
  pub paced : 0 < interval

-- the row of a region of K lines that has taken n writes since it was new, and so has moved n / interval times:
-- the gap has come down by one with each move, and the start has gone up by one with each K + 1 moves
abbrev pub row_after_writes : ℕ → ℕ → ℕ → Row
row_after_writes K interval n =
    record { start = n / interval / (K + 1) % K; gap = K - n / interval % (K + 1); due = n % interval }

-- the writes from the new registers g to g', and the copies that follow them: each copy comes after `interval` writes to its region,
-- and the rows are known by the number of writes to each region alone
pub record FromNew (g : Gaps) (lines : List ℕ) (g' : Gaps) (copies : List Copy) : Type 0 where
  pub sum : g'.copies * g.interval + total_due g'.rows ≡ length lines
  pub moves : (region : ℕ) → region < g.regions → moves_in g region copies ≡ writes_in g region lines / g.interval
  pub rows : (region : ℕ) → region < g.regions → row_at g' region ≡ row_after_writes g.size g.interval (writes_in g region lines)

-- new registers are sound, and with them the lines lie in order, each region's last place being its gap; sound registers stay sound,
-- and so no move is ever overdue; the copies counted are those that the writes ask for; and copies times interval, with what is due,
-- grows by one with each write
pub record Registers : Type 0 where
  pub new : (R K interval : ℕ) → Fit R K interval → GapsSound (new_gaps R K interval)
  pub in_order : (R K interval : ℕ) → Fit R K interval → (region offset : ℕ) → region < R → offset < K
      → gap_place (new_gaps R K interval) (region * K + offset) ≡ region * (K + 1) + offset
  pub write : (g : Gaps) → GapsSound g → (line : ℕ) → line < line_count g → GapsSound (after_write g line)
  pub after : (g : Gaps) → GapsSound g → (lines : List ℕ) → AllLines g lines → GapsSound (gaps_after g lines)
  pub copies : (g : Gaps) (lines : List ℕ) → (gaps_after g lines).copies ≡ g.copies + length (gaps_copies g lines)
  pub sum : (g : Gaps) → GapsSound g → (lines : List ℕ) → AllLines g lines
      → (gaps_after g lines).copies * g.interval + total_due (gaps_after g lines).rows
      ≡ g.copies * g.interval + total_due g.rows + length lines
  pub from_new : (R K interval : ℕ) → Fit R K interval → (lines : List ℕ) → AllLines (new_gaps R K interval) lines
      → FromNew (new_gaps R K interval) lines (gaps_after (new_gaps R K interval) lines) (gaps_copies (new_gaps R K interval) lines)

-- the copy k of a region reads the place where the line that it moves is, and writes the region's gap
pub record Carries (g : Gaps) (region : ℕ) (k : Copy) : Type 0 where
  pub within : k.moved < line_count g
  pub same_region : k.moved / g.size ≡ region
  pub reads : gap_place g k.moved ≡ k.from
  pub writes : k.to ≡ gap_at g region

-- the copy with the number n of all that follow the writes, at its moment: after a front of the writes, when n copies have been made
pub record CarriedAt (g : Gaps) (lines : List ℕ) (n : ℕ) : Type 0 where
  pub front : List ℕ
  pub line : ℕ
  pub rest : List ℕ
  pub split : lines ≡ front ++ line ∷ rest
  pub number : n ≡ length (gaps_copies g front)
  pub carries : Carries (gaps_after g front) (line / g.size) (slice_index_or (gaps_copies g lines) n no_copy)

-- every copy carries its line
abbrev pub CopiesCarry : Type 0
CopiesCarry =
    (g : Gaps) → GapsSound g → (lines : List ℕ) → AllLines g lines → (n : ℕ) → n < length (gaps_copies g lines) → CarriedAt g lines n

-- of one region, no line is moved, and no place copied into, more than once more often than another
pub record Even (g : Gaps) (copies : List Copy) : Type 0 where
  pub lines : (i j : ℕ) → i < line_count g → j < line_count g → i / g.size ≡ j / g.size
      → times_moved i copies ≤ times_moved j copies + 1
  pub places : (p q : ℕ) → p < place_count g → q < place_count g → p / (g.size + 1) ≡ q / (g.size + 1)
      → times_into p copies ≤ times_into q copies + 1

-- from any sound registers, and so from new ones
abbrev pub Evenness : Type 0
Evenness = (g : Gaps) → GapsSound g → (lines : List ℕ) → AllLines g lines → Even g (gaps_copies g lines)

-- ---- the life
-- it is the greatest number of writes that are paid for, and the only such; new registers ask no more below, whatever the lines,
-- and one write more to a single line can ask more than is left
pub record Lives : Type 0 where
  pub greatest : (left interval : ℕ) → 0 < interval → GreatestLife left interval (life_of left interval)
  pub only : (left interval d : ℕ) → 0 < interval → GreatestLife left interval d → d ≡ life_of left interval
  pub within : (left interval : ℕ) → life_of left interval ≤ left
  pub narrow : (left interval : ℕ) → left < 2 ^ 32 → life_of left interval < 2 ^ 32
  pub paid : (R K interval : ℕ) → Fit R K interval → (left : ℕ) (lines : List ℕ) → AllLines (new_gaps R K interval) lines
      → length lines ≤ life_of left interval
      → length lines + length (gaps_copies (new_gaps R K interval) lines) ≤ left
  pub unpaid : (R K interval : ℕ) → Fit R K interval → 0 < R → (left d : ℕ) → life_of left interval < d
      → left < d + length (gaps_copies (new_gaps R K interval) (replicate d 0))

-- ---- the marked cases
-- one region of 4 lines that moves with each write, after n writes
abbrev moved_times : ℕ → Gaps
moved_times n = gaps_after (new_gaps 1 4 1) (replicate n 0)

abbrev pub MarkedGaps : Type 0
MarkedGaps =
    (gap_place (moved_times 1) 3 ≡ 4)
    × (gap_place (moved_times 1) 2 ≡ 2)
    × (gap_place (moved_times 4) 0 ≡ 1)
    × (gap_place (moved_times 5) 3 ≡ 0)
    × (gap_place (moved_times 5) 0 ≡ 1)
    × (gap_holder (moved_times 1) 3 ≡ None)
    × (gap_holder (moved_times 5) 0 ≡ Some 3)
    × (gap_holder (moved_times 5) 4 ≡ None)
    × (slice_index_or (gaps_copies (new_gaps 1 4 1) (replicate 5 0)) 4 no_copy ≡ record { moved = 3; from = 4; to = 0 })
    × (life_of 20 2 ≡ 13)
    × (life_of 5 2 ≡ 3)
