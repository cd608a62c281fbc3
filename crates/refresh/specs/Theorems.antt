-- What is proved of the definitions. Assumes nothing.
use Rattle.std.specs.Prelude.{◌≡◌, ℕ, ◌+◌, ◌*◌, ◌/◌, ◌%◌, ◌<◌, ◌≤◌, ◌≢◌, ◌⊎◌, List, [], ◌∷◌, map, length, Some, None, bit_xor}
use Rattle.std.specs.List.{AllByRecursion}
use Rattle.refresh.specs.declared.round.Round.{Round}
use Rattle.line.specs.Copies.{Copy, after_copies}
use Rattle.refresh.specs.Powers.{PowerOfTwo, GreatestPower, greatest_power}
use Rattle.refresh.specs.Refresh.{mate_of, place_of, holder_at, first_round, advanced, next_round, pointer_mate, refreshed, refresh_copies, after_refreshes, copies_of_refreshes, held_after, Sound, Registers, new_registers, after_writes, copies_of_writes, key_difference, mates_above, Bounded, round_at, copies_at, registers_at}
use Rattle.refresh.specs.Life.{GreatestLife, life_of}

-- ---- places and holders
-- in the round w, of n lines
pub record Mapping (n : ℕ) (w : Round) : Type 0 where
  -- lines stay among the n, and mates are mates of each other
  pub place_below : (a : ℕ) → a < n → place_of w a < n
  pub mate_below : (a : ℕ) → a < n → mate_of w a < n
  pub mates : (a : ℕ) → mate_of w (mate_of w a) ≡ a
  -- two lines never share a place
  pub apart : (a b : ℕ) → place_of w a ≡ place_of w b → a ≡ b
  -- each undoes the other
  pub held : (a : ℕ) → a < n → holder_at n w (place_of w a) ≡ Some a
  pub placed : (q a : ℕ) → holder_at n w q ≡ Some a → (a < n) × (place_of w a ≡ q)
  -- no line exactly from n on
  pub some : (q : ℕ) → q < n → (a : ℕ) × (holder_at n w q ≡ Some a)
  pub none : (q : ℕ) → n ≤ q → holder_at n w q ≡ None

abbrev pub PlacesAndHolders : Type 0
PlacesAndHolders = (n : ℕ) (keys : List ℕ) (w : Round) → Sound n keys w → Mapping n w

-- a line is placed by the current key once it or its mate is below the pointer, and by the previous key before that
abbrev pub MappingInFull : Type 0
MappingInFull =
    (w : Round) (a : ℕ)
    → (mate_of w a ≡ bit_xor (bit_xor a w.previous) w.current)
    × ((a < w.pointer) ⊎ (mate_of w a < w.pointer) → place_of w a ≡ bit_xor a w.current)
    × (w.pointer ≤ a → w.pointer ≤ mate_of w a → place_of w a ≡ bit_xor a w.previous)

-- ---- one refresh
-- a copy, at a refresh that takes the registers from w to v: the line that it moves lies at the place read before the refresh,
-- and at the place written after it
pub record Carried (n : ℕ) (w v : Round) (k : Copy) : Type 0 where
  pub line : k.moved < n
  pub read : place_of w k.moved ≡ k.from
  pub write : place_of v k.moved ≡ k.to
  pub held_before : holder_at n w k.from ≡ Some k.moved
  pub held_after : holder_at n v k.to ≡ Some k.moved
  pub apart : k.from ≢ k.to

-- the refresh of the round w, of n lines with a ring of keys
pub record OneRefresh (n : ℕ) (keys : List ℕ) (w : Round) : Type 0 where
  -- where the mate of the line at the pointer is above it, the two change places, by two copies:
  -- the first is into the place that the second reads, so that both reads have to come first
  pub exchanged :
      w.pointer < pointer_mate w
      → (place_of (refreshed n keys w) w.pointer ≡ place_of w (pointer_mate w))
      × (place_of (refreshed n keys w) (pointer_mate w) ≡ place_of w w.pointer)
      × (refresh_copies w
      ≡ record { moved = pointer_mate w; from = bit_xor w.pointer w.current; to = bit_xor w.pointer w.previous }
      ∷ record { moved = w.pointer; from = bit_xor w.pointer w.previous; to = bit_xor w.pointer w.current }
      ∷ [])
  -- where it is not above, no line changes place and nothing is copied
  pub unexchanged :
      pointer_mate w ≤ w.pointer
      → ((a : ℕ) → a < n → place_of (refreshed n keys w) a ≡ place_of w a) × (refresh_copies w ≡ [])
  -- no other line ever does
  pub others :
      (a : ℕ) → a < n → a ≢ w.pointer → a ≢ pointer_mate w → place_of (refreshed n keys w) a ≡ place_of w a
  -- the pointer rises by 1; at n the next round begins, and that changes no place
  pub onward : w.pointer + 1 < n → refreshed n keys w ≡ advanced w
  pub ended : w.pointer + 1 ≡ n → refreshed n keys w ≡ next_round n keys w
  pub end_unmoved : w.pointer + 1 ≡ n → (a : ℕ) → a < n → place_of (next_round n keys w) a ≡ place_of (advanced w) a
  -- each copy carries its line from where it lay to where it lies after
  pub carried : AllByRecursion (Carried n w (refreshed n keys w)) (refresh_copies w)
  -- and with both reads before the first write, each line keeps what it held
  pub kept :
      (held : ℕ → ℕ) (a : ℕ) → a < n
      → after_copies held (refresh_copies w) (place_of (refreshed n keys w) a) ≡ held (place_of w a)

pub record RefreshesExchange : Type 0 where
  pub one : (n : ℕ) (keys : List ℕ) (w : Round) → Sound n keys w → OneRefresh n keys w
  -- so each line keeps what it held over any number of refreshes
  pub many :
      (n : ℕ) (keys : List ℕ) (r : ℕ) (w : Round) (held : ℕ → ℕ) (a : ℕ) → a < n
      → held_after n keys r w held (place_of (after_refreshes n keys r w) a) ≡ held (place_of w a)

-- ---- the registers
pub record SoundRegisters (g : Registers) : Type 0 where
  pub round : Sound g.size g.keys g.round
  pub due : g.due < g.interval

-- d accepted writes, from the registers g to h, with the copies ks: one refresh after each interval's worth, and nothing else
pub record Walked (g : Registers) (d : ℕ) (h : Registers) (ks : List Copy) : Type 0 where
  pub size : h.size ≡ g.size
  pub interval : h.interval ≡ g.interval
  pub keys : h.keys ≡ g.keys
  pub round : h.round ≡ after_refreshes g.size g.keys ((g.due + d) / g.interval) g.round
  pub due : h.due ≡ (g.due + d) % g.interval
  pub made : ks ≡ copies_of_refreshes g.size g.keys ((g.due + d) / g.interval) g.round
  pub copies : h.copies ≡ g.copies + length ks

pub record RegistersOverWrites : Type 0 where
  pub starts :
      (n interval : ℕ) (keys : List ℕ) → PowerOfTwo n → 1 ≤ interval → 2 ≤ length keys
      → SoundRegisters (new_registers n interval keys)
  pub stays : (g : Registers) (d : ℕ) → SoundRegisters g → SoundRegisters (after_writes d g)
  pub walks : (g : Registers) (d : ℕ) → g.due < g.interval → Walked g d (after_writes d g) (copies_of_writes d g)
  -- and in full, from new
  pub rounds :
      (n : ℕ) (keys : List ℕ) (r : ℕ) → 1 ≤ n → 2 ≤ length keys
      → after_refreshes n keys r (first_round n keys) ≡ round_at n keys r
  pub full :
      (n interval : ℕ) (keys : List ℕ) (d : ℕ) → PowerOfTwo n → 1 ≤ interval → 2 ≤ length keys
      → after_writes d (new_registers n interval keys) ≡ registers_at n interval keys d
  -- only the low bits of the keys count
  pub low :
      (n : ℕ) (keys : List ℕ) (r : ℕ) → 1 ≤ n → 2 ≤ length keys
      → after_refreshes n (map (λ key. key % n) keys) r (first_round n (map (λ key. key % n) keys))
      ≡ after_refreshes n keys r (first_round n keys)

-- ---- copies
-- the round that begins with w: copies are made two at a time, where a line's mate is above it
pub record WholeRound (n : ℕ) (keys : List ℕ) (w : Round) : Type 0 where
  pub part :
      (j : ℕ) → j ≤ n → length (copies_of_refreshes n keys j w) ≡ 2 * mates_above (key_difference w) j
  pub changing : w.previous ≢ w.current → length (copies_of_refreshes n keys n w) ≡ n
  pub unchanging : w.previous ≡ w.current → length (copies_of_refreshes n keys n w) ≡ 0
  -- it ends in the next round, and takes each line from its place by the previous key to its place by the current one
  pub ends : after_refreshes n keys n w ≡ next_round n keys w
  pub first : (a : ℕ) → place_of w a ≡ bit_xor a w.previous
  pub last : (a : ℕ) → a < n → place_of (after_refreshes n keys n w) a ≡ bit_xor a w.current

-- r refreshes from new: how many copies there are, and the bound that the life rests on
pub record Counted (n : ℕ) (keys : List ℕ) (r : ℕ) : Type 0 where
  pub exactly : length (copies_of_refreshes n keys r (first_round n keys)) ≡ copies_at n keys r
  pub most : length (copies_of_refreshes n keys r (first_round n keys)) ≤ r + n / 2

-- the same bound, as a fact of one state: it holds of a new round, each refresh keeps it, and it leaves room for both copies
pub record BoundKept (n : ℕ) (keys : List ℕ) (w : Round) (copies q : ℕ) : Type 0 where
  pub more : Bounded (refreshed n keys w) (copies + length (refresh_copies w)) (q + 1)
  pub most : copies ≤ q + n / 2
  pub two : w.pointer < pointer_mate w → copies + 2 ≤ q + 1 + n / 2

pub record CopiesCounted : Type 0 where
  pub rounds : (n : ℕ) (keys : List ℕ) (w : Round) → Sound n keys w → w.pointer ≡ 0 → WholeRound n keys w
  pub from_new : (n : ℕ) (keys : List ℕ) (r : ℕ) → PowerOfTwo n → 2 ≤ length keys → Counted n keys r
  pub bound_first : (n : ℕ) (keys : List ℕ) → Bounded (first_round n keys) 0 0
  pub bound_kept :
      (n : ℕ) (keys : List ℕ) (w : Round) (copies q : ℕ) → Sound n keys w → Bounded w copies q → BoundKept n keys w copies q

-- ---- the life
pub record LifeSuffices : Type 0 where
  pub computed : (interval n left : ℕ) → 1 ≤ interval → GreatestLife interval n left (life_of interval n left)
  pub only : (interval n left life : ℕ) → 1 ≤ interval → GreatestLife interval n left life → life ≡ life_of interval n left
  -- writes within the life, with all the copies that they bring, never need more than is left
  pub covers :
      (n interval left : ℕ) (keys : List ℕ) (d : ℕ) → PowerOfTwo n → 1 ≤ interval → 2 ≤ length keys → d ≤ life_of interval n left
      → d + length (copies_of_writes d (new_registers n interval keys)) ≤ left

-- ---- the count of lines
pub record GreatestPowers : Type 0 where
  pub computed : (m : ℕ) → 1 ≤ m → m ≤ 4096 → GreatestPower m (greatest_power m)
  pub only : (m n : ℕ) → 1 ≤ m → m ≤ 4096 → GreatestPower m n → n ≡ greatest_power m
  -- with two lines below there are two
  pub two : (m : ℕ) → 2 ≤ m → m ≤ 4096 → 2 ≤ greatest_power m

-- ---- the marked cases: 8 lines, keys 4 then 6
abbrev marked_keys : List ℕ
marked_keys = 4 ∷ 6 ∷ []

abbrev marked_round : ℕ → Round
marked_round r = after_refreshes 8 marked_keys r (first_round 8 marked_keys)

abbrev marked_copies : ℕ → List Copy
marked_copies r = copies_of_refreshes 8 marked_keys r (first_round 8 marked_keys)

abbrev pub MarkedRefresh : Type 0
MarkedRefresh =
    -- after 1 refresh line 0 is at 6 and line 2 at 4
    (place_of (marked_round 1) 0 ≡ 6)
    × (place_of (marked_round 1) 2 ≡ 4)
    × (holder_at 8 (marked_round 1) 6 ≡ Some 0)
    × (holder_at 8 (marked_round 1) 4 ≡ Some 2)
    × (holder_at 8 (marked_round 1) 8 ≡ None)
    × (marked_copies 1 ≡ record { moved = 2; from = 6; to = 4 } ∷ record { moved = 0; from = 4; to = 6 } ∷ [])
    -- after 3, 4 copies have been made; after 8, 8
    × (length (marked_copies 3) ≡ 4)
    × (length (marked_copies 8) ≡ 8)
    -- and so they are counted over writes, at an interval of 2
    × ((after_writes 7 (new_registers 8 2 marked_keys)).copies ≡ 4)
    × ((after_writes 16 (new_registers 8 2 marked_keys)).copies ≡ 8)
    -- lives, at an interval of 2: 20 left below give 11, 5 left give 1
    × (life_of 2 8 20 ≡ 11)
    × (life_of 2 8 5 ≡ 1)
    -- counts of lines
    × (greatest_power 8 ≡ 8)
    × (greatest_power 13 ≡ 8)
    × (greatest_power 4096 ≡ 4096)
