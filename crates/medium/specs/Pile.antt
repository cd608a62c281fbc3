-- Piles: what layers ask below, and what that makes of everything below them. Assumes nothing.
use Rattle.std.specs.Prelude.{◌≡◌, ℕ, ◌+◌, cond, List, [], ◌∷◌, ◌++◌, map, length, take, drop, None, nat_le, slice_index_or, slice_set}
use Rattle.std.specs.List.{range_with_len}
use Rattle.line.specs.Copies.{Copy}
use Rattle.startgap.specs.Regions as startgap
use Rattle.startgap.specs.Regions.{Gaps, gap_place}
use Rattle.refresh.specs.Refresh as refreshing
use Rattle.refresh.specs.Refresh.{Registers, place_of}
use Rattle.medium.specs.Array.{Array, denied_by, unless_denied, next, after}
use Rattle.medium.specs.declared.call.Call.{Call}
use Rattle.medium.specs.declared.call.Call.TheVariants.{Read, Write}

-- ---- a layer, by its kind and its registers
pub data Layer : Type 0 where
  scatter : ℕ → (ℕ → ℕ) → Layer  -- a span, and where the shuffle takes each number
  gaps : Gaps → Layer
  refresh : Registers → Layer

-- the place of line i
abbrev pub place : Layer → ℕ → ℕ
place (scatter n f) i = f i
place (gaps g) i = gap_place g i
place (refresh g) i = place_of g.round i

-- the copies that follow an accepted write to line i
abbrev pub due_copies : Layer → ℕ → List Copy
due_copies (scatter n f) i = []
due_copies (gaps g) i = startgap.write_copies g i
due_copies (refresh g) i = refreshing.write_copies g

-- the registers after an accepted write to line i
abbrev pub turned : Layer → ℕ → Layer
turned (scatter n f) i = scatter n f
turned (gaps g) i = gaps (startgap.after_write g i)
turned (refresh g) i = refresh (refreshing.after_write g)

-- the copies made since fitting
abbrev pub made : Layer → ℕ
made (scatter n f) = 0
made (gaps g) = g.copies
made (refresh g) = g.copies

-- ---- what a layer asks below: an accepted write goes first to the line's place; then each due copy reads, and then each writes
abbrev pub reads_of : {A : Type 0} → List Copy → List (Call A)
reads_of [] = []
reads_of (k ∷ ks) = Read k.from ∷ reads_of ks

-- a copy writes the line that it moves
abbrev pub writes_of : {A : Type 0} → List A → A → List Copy → List (Call A)
writes_of ls d [] = []
writes_of ls d (k ∷ ks) = Write k.to (slice_index_or ls k.moved d) ∷ writes_of ls d ks

abbrev pub requests : {A : Type 0} → Layer → List A → Call A → List (Call A)
requests s ls (Read i) = Read (place s i) ∷ []
requests s ls (Write i v) = Write (place s i) v ∷ (reads_of (due_copies s i) ++ writes_of (slice_set ls i v) v (due_copies s i))

abbrev pub turned_by : {A : Type 0} → Layer → Call A → Layer
turned_by s (Read i) = s
turned_by s (Write i v) = turned s i

-- at one call, of a layer that means the array a: a denied call asks nothing and turns nothing
unfoldable pub asked_at : {A : Type 0} → Layer → Array A → Call A → List (Call A)
asked_at s a c = unless_denied (denied_by a c) (requests s a.lines c) []

unfoldable pub layer_at : {A : Type 0} → Layer → Array A → Call A → Layer
layer_at s a c = unless_denied (denied_by a c) (turned_by s c) s

-- over calls, in their order
unfoldable pub asks : {A : Type 0} → Layer → Array A → List (Call A) → List (Call A)
asks s a [] = []
asks s a (c ∷ cs) = asked_at s a c ++ asks (layer_at s a c) (next a c) cs

unfoldable pub layer_after : {A : Type 0} → Layer → Array A → List (Call A) → Layer
layer_after s a [] = s
layer_after s a (c ∷ cs) = layer_after (layer_at s a c) (next a c) cs

-- none of the calls is denied in its turn
unfoldable pub Undenied : {A : Type 0} → Array A → List (Call A) → Type 0
Undenied a [] = Unit {0}
Undenied a (c ∷ cs) = (denied_by a c ≡ None) × Undenied (next a c) cs

-- ---- what lies below a medium: nothing that is known; or, below a layer, what means an array and has that wear, and what lies below that
pub data Pile (A : Type 0) : Type 0 where
  bottom : Pile A
  over : Layer → Array A → ℕ → Pile A → Pile A

-- what the calls cs, put to a pile that means a and whose wear goes from w to w', do to all that lies below: at each level the registers
-- are those that the definitions give, the array below is what the list of what was asked leaves, none of it was denied, the wear below
-- grew as that above; and the same one level down, with that list as the calls
unfoldable pub Served : {A : Type 0} → Pile A → Array A → ℕ → List (Call A) → Pile A → ℕ → Type 0
Served bottom a w cs bottom w' = Unit {0}
Served bottom a w cs (over _ _ _ _) w' = ⊥
Served (over _ _ _ _) a w cs bottom w' = ⊥
Served (over s b u t) a w cs (over s' b' u' t') w' =
    (s' ≡ layer_after s a cs)
    × (b' ≡ after b (asks s a cs))
    × Undenied b (asks s a cs)
    × (u' + w ≡ u + w')
    × Served t b u (asks s a cs) t' u'

-- the array and the wear of the bottom, below a pile that means a with wear w; and the copies of all layers
unfoldable pub bottom_array : {A : Type 0} → Array A → Pile A → Array A
bottom_array a bottom = a
bottom_array a (over s b w t) = bottom_array b t

unfoldable pub bottom_wear : {A : Type 0} → ℕ → Pile A → ℕ
bottom_wear w bottom = w
bottom_wear w (over s b u t) = bottom_wear u t

unfoldable pub copies : {A : Type 0} → Pile A → ℕ
copies bottom = 0
copies (over s b w t) = made s + copies t

-- ---- what a layer means, by what lies below it
-- the lines at the places ps
abbrev pub gathered : {A : Type 0} → List A → List ℕ → List A
gathered ls [] = []
gathered ls (p ∷ ps) = take 1 (drop p ls) ++ gathered ls ps

-- n lines, each at its place in ls; none where ls has fewer than the layer needs
unfoldable pub placed_lines : {A : Type 0} → ℕ → ℕ → (ℕ → ℕ) → List A → List A
placed_lines n need f ls = cond (nat_le need (length ls)) (gathered ls (map f (range_with_len 0 n))) []

-- the stated life, as long as what is left below pays for it; else what is taken already
unfoldable pub paid_life : ℕ → ℕ → ℕ → ℕ → ℕ
paid_life life taken cost left = cond (nat_le cost left) life taken

-- the copies of the topmost layer alone
abbrev pub made_by : {A : Type 0} → Pile A → ℕ
made_by bottom = 0
made_by (over s b w t) = made s
