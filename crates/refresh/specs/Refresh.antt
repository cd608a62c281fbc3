-- Security Refresh: where each line lies, one refresh, and the registers over writes and refreshes. Assumes nothing.
use Rattle.std.specs.Prelude.{ℕ, zero, suc, ◌+◌, ◌*◌, ◌/◌, ◌%◌, ◌<◌, ◌≤◌, Bool, cond, ◌||◌, List, [], ◌∷◌, ◌++◌, length, Some, None, Option, ◌==◌, bit_xor, nat_lt, slice_index}
use Rattle.refresh.specs.declared.round.Round.{Round}
use Rattle.line.specs.Copies.{Copy, after_copies}
use Rattle.refresh.specs.Powers.{PowerOfTwo}

-- ---- the mapping, in the round w
-- the line with which line a changes places in this round
abbrev pub mate_of : Round → ℕ → ℕ
mate_of w a = bit_xor (bit_xor a w.previous) w.current

-- is line a remapped in this round? it is once the pointer has passed it or its mate
abbrev pub remapped : Round → ℕ → Bool
remapped w a = nat_lt a w.pointer || nat_lt (mate_of w a) w.pointer

-- the place of line a
unfoldable pub place_of : Round → ℕ → ℕ
place_of w a = cond (remapped w a) (bit_xor a w.current) (bit_xor a w.previous)

-- the line whose place is q: of the two that the keys would bring there, the one by the current key if it is remapped
unfoldable pub line_at : Round → ℕ → ℕ
line_at w q =
    cond (nat_lt (bit_xor q w.current) w.pointer || nat_lt (bit_xor q w.previous) w.pointer)
    (bit_xor q w.current)
    (bit_xor q w.previous)

-- the line at place q, of n lines: none from n on
abbrev pub holder_at : ℕ → Round → ℕ → Option ℕ
holder_at n w q = cond (nat_lt q n) (Some (line_at w q)) None

-- ---- one refresh, of n lines with a ring of keys
-- the low bits of the ring's key at index i
abbrev pub key_at : ℕ → List ℕ → ℕ → ℕ
key_at n keys i = slice_index keys i % n

-- the index that follows i in the ring: the first follows the last
abbrev pub turn_after : List ℕ → ℕ → ℕ
turn_after keys i = (i + 1) % length keys

-- the first round: the ring's first key is the previous one, its second the current one
abbrev pub first_round : ℕ → List ℕ → Round
first_round n keys = record { previous = key_at n keys 0; current = key_at n keys 1; turn = 1; pointer = 0 }

-- the pointer one line further
abbrev pub advanced : Round → Round
advanced w = record { previous = w.previous; current = w.current; turn = w.turn; pointer = w.pointer + 1 }

-- the round that follows: the current key is the previous one, and the ring's next key the current one
abbrev pub next_round : ℕ → List ℕ → Round → Round
next_round n keys w =
    record {
      previous = w.current;
      current = key_at n keys (turn_after keys w.turn);
      turn = turn_after keys w.turn;
      pointer = 0;
    }

-- the registers after one refresh
unfoldable pub refreshed : ℕ → List ℕ → Round → Round
refreshed n keys w = cond (nat_lt (w.pointer + 1) n) (advanced w) (next_round n keys w)

-- the mate of the line at the pointer, and the two places between which a refresh exchanges them
abbrev pub pointer_mate : Round → ℕ
pointer_mate w = mate_of w w.pointer

abbrev pub previous_place : Round → ℕ
previous_place w = bit_xor w.pointer w.previous

abbrev pub current_place : Round → ℕ
current_place w = bit_xor w.pointer w.current

-- the lines at these places change places: the first copy is into the one by the previous key
abbrev pub exchange : Round → List Copy
exchange w =
    record { moved = pointer_mate w; from = current_place w; to = previous_place w }
    ∷ record { moved = w.pointer; from = previous_place w; to = current_place w }
    ∷ []

-- the copies of one refresh, in their order
unfoldable pub refresh_copies : Round → List Copy
refresh_copies w = cond (nat_lt w.pointer (pointer_mate w)) (exchange w) []

-- ---- r refreshes
unfoldable pub after_refreshes : ℕ → List ℕ → ℕ → Round → Round
after_refreshes n keys zero w = w
after_refreshes n keys (suc r) w = refreshed n keys (after_refreshes n keys r w)

-- all their copies, in order
unfoldable pub copies_of_refreshes : ℕ → List ℕ → ℕ → Round → List Copy
copies_of_refreshes n keys zero w = []
copies_of_refreshes n keys (suc r) w = copies_of_refreshes n keys r w ++ refresh_copies (after_refreshes n keys r w)

-- what the places hold after them, if each refresh reads both places before it writes them
unfoldable pub held_after : {A : Type 0} → ℕ → List ℕ → ℕ → Round → (ℕ → A) → ℕ → A
held_after n keys zero w held = held
held_after n keys (suc r) w held =
    after_copies (held_after n keys r w held) (refresh_copies (after_refreshes n keys r w))

-- the registers of a round are sound: the count of lines is a power of two, both keys and the pointer are below it,
-- and the turn is in the ring
pub record Sound (n : ℕ) (keys : List ℕ) (w : Round) : Type 0 where
  pub power : PowerOfTwo n
  pub previous : w.previous < n
  pub current : w.current < n
  pub turn : w.turn < length keys
  pub pointer : w.pointer < n

-- ---- the registers of a layer
pub record Registers : Type 0 where
  -- the settings: how many lines, how many writes to a refresh, and the ring of keys
  pub size : ℕ
  pub interval : ℕ
  pub keys : List ℕ
  pub round : Round
  -- how many writes were accepted since the last refresh, and how many copies were made in all
  pub due : ℕ
  pub copies : ℕ

abbrev pub new_registers : ℕ → ℕ → List ℕ → Registers
new_registers n interval keys =
    record { size = n; interval = interval; keys = keys; round = first_round n keys; due = 0; copies = 0 }

-- does the next accepted write bring no refresh?
abbrev pub waits : Registers → Bool
waits g = nat_lt (g.due + 1) g.interval

-- the copies that an accepted write brings
unfoldable pub write_copies : Registers → List Copy
write_copies g = cond (waits g) [] (refresh_copies g.round)

-- the registers after an accepted write
unfoldable pub after_write : Registers → Registers
after_write g =
    record {
      size = g.size;
      interval = g.interval;
      keys = g.keys;
      round = cond (waits g) g.round (refreshed g.size g.keys g.round);
      due = cond (waits g) (g.due + 1) 0;
      copies = g.copies + length (write_copies g);
    }

-- after d accepted writes
unfoldable pub after_writes : ℕ → Registers → Registers
after_writes zero g = g
after_writes (suc d) g = after_write (after_writes d g)

-- all the copies that d accepted writes bring, in order
unfoldable pub copies_of_writes : ℕ → Registers → List Copy
copies_of_writes zero g = []
copies_of_writes (suc d) g = copies_of_writes d g ++ write_copies (after_writes d g)

-- ---- counts of copies
-- what a line and its mate differ by
abbrev pub key_difference : Round → ℕ
key_difference w = bit_xor w.previous w.current

-- how many of the lines below j have a mate above them, where mates differ by x
unfoldable pub mates_above : ℕ → ℕ → ℕ
mates_above x zero = 0
mates_above x (suc j) = cond (nat_lt j (bit_xor j x)) 1 0 + mates_above x j

-- in how many of the first t rounds the two keys differ
unfoldable pub changes : ℕ → List ℕ → ℕ → ℕ
changes n keys zero = 0
changes n keys (suc t) =
    cond (key_at n keys (t % length keys) == key_at n keys ((t + 1) % length keys)) 0 1 + changes n keys t

-- the bound on copies as a fact of one state: so many copies were made by q refreshes, and those of the round in progress
-- are as many as the lines below the pointer whose mate is above allow
abbrev pub Bounded : Round → ℕ → ℕ → Type 0
Bounded w copies q = copies + w.pointer ≤ q + 2 * mates_above (key_difference w) w.pointer

-- ---- the registers in full, from new
-- after r refreshes
abbrev pub round_at : ℕ → List ℕ → ℕ → Round
round_at n keys r =
    record {
      previous = key_at n keys (r / n % length keys);
      current = key_at n keys ((r / n + 1) % length keys);
      turn = (r / n + 1) % length keys;
      pointer = r % n;
    }

-- how many copies r refreshes have made: n in each round whose keys differ, and since then two for each line passed
-- whose mate is above it
abbrev pub copies_at : ℕ → List ℕ → ℕ → ℕ
copies_at n keys r = n * changes n keys (r / n) + 2 * mates_above (key_difference (round_at n keys r)) (r % n)

-- after d accepted writes
abbrev pub registers_at : ℕ → ℕ → List ℕ → ℕ → Registers
registers_at n interval keys d =
    record {
      size = n;
      interval = interval;
      keys = keys;
      round = round_at n keys (d / interval);
      due = d % interval;
      copies = copies_at n keys (d / interval);
    }
