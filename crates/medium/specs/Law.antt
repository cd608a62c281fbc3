-- The law of every pile over every succession of calls: as a flat array, with books that balance, and evenly. Assumes nothing.
use Rattle.std.specs.Prelude.{◌≡◌, ℕ, ◌+◌, ◌-◌, ◌*◌, ◌%◌, ◌^◌, ◌<◌, ◌≤◌, ◌⊎◌, List, [], ◌∷◌, ◌++◌, map, length, None, Ok, Err, Result, slice_index_or}
use Rattle.std.specs.List.{AllByRecursion}
use Rattle.line.specs.Answers.{Answer}
use Rattle.line.specs.Copies.{Copy}
use Rattle.line.specs.declared.answer.Accepted.TheVariants.{Line, Toll}
use Rattle.line.specs.declared.denial.Denial.{Denial as DeniedBy}
use Rattle.line.specs.declared.denial.Denial.TheVariants.{LifeUsed}
use Rattle.startgap.specs.Life as startgap
use Rattle.startgap.specs.Regions.{Gaps, region_size, new_gaps, line_count, place_count, gap_place}
use Rattle.startgap.specs.Theorems.{Even}
use Rattle.refresh.specs.Life as refreshing
use Rattle.refresh.specs.Powers.{GreatestPower}
use Rattle.refresh.specs.Refresh.{Registers, new_registers, place_of}
use Rattle.medium.specs.Array.{Array, Reply, line, written, denied, denied_by, unless_denied, next, after, reply, replies}
use Rattle.medium.specs.Pile.{Layer, scatter, gaps, refresh, place, due_copies, made, layer_at, asks, Pile, bottom, over, Served, bottom_array, bottom_wear, copies, placed_lines}
use Rattle.medium.specs.declared.call.Call.{Call}
use Rattle.medium.specs.declared.call.Call.TheVariants.{Read, Write}

-- ---- answers: the flat array's reply, which has no toll; the toll; and how many replies are to accepted writes
abbrev pub reply_of : {A : Type 0} → Answer A → Reply A
reply_of (Ok (Line v)) = line v
reply_of (Ok (Toll t)) = written
reply_of (Err d) = denied d

abbrev pub toll : {A : Type 0} → Answer A → ℕ
toll (Ok (Line v)) = 0
toll (Ok (Toll t)) = t
toll (Err d) = 0

unfoldable pub tolls : {A : Type 0} → List (Answer A) → ℕ
tolls [] = 0
tolls (r ∷ rs) = toll r + tolls rs

abbrev pub accepted_one : {A : Type 0} → Reply A → ℕ
accepted_one (line v) = 0
accepted_one written = 1
accepted_one (denied d) = 0

unfoldable pub accepted_writes : {A : Type 0} → List (Reply A) → ℕ
accepted_writes [] = 0
accepted_writes (r ∷ rs) = accepted_one r + accepted_writes rs

-- ---- as a flat array
-- the calls cs, put to a pile that means a with wear w and has p below it, were answered rs, and it is now a' with wear w' over p':
-- the replies are the array's, count, life, taken and lines end as the array's, the wear grew by the tolls, and each level below was
-- served as the definitions say, with nothing denied
pub record Ran {A : Type 0} (p : Pile A) (a : Array A) (w : ℕ) (cs : List (Call A)) (rs : List (Answer A)) (p' : Pile A) (a' : Array A) (w' : ℕ) : Type 0 where
  pub answered : map reply_of rs ≡ replies a cs
  pub array : a' ≡ after a cs
  pub wear : w' % 2 ^ 64 ≡ (w + tolls rs) % 2 ^ 64
  pub served : Served p a w cs p' w'

-- after the calls, every write to a line that there is, is accepted until the life is used, and none after
pub record Lasts {A : Type 0} (a : Array A) (cs : List (Call A)) : Type 0 where
  pub taken : (after a cs).taken ≡ a.taken + accepted_writes (replies a cs)
  pub life : (after a cs).life ≡ a.life
  pub until : (i : ℕ) (v : A) → i < length a.lines → a.taken + accepted_writes (replies a cs) < a.life → reply (after a cs) (Write i v) ≡ written
  pub none : (i : ℕ) (v : A) → i < length a.lines → a.life ≤ a.taken + accepted_writes (replies a cs) → reply (after a cs) (Write i v) ≡ denied LifeUsed

-- ---- the books
-- the bottom took the accepted writes and all layers' copies, and its wear grew by the tolls
pub record Books {A : Type 0} (p : Pile A) (a : Array A) (w : ℕ) (rs : List (Answer A)) (p' : Pile A) (a' : Array A) (w' : ℕ) : Type 0 where
  pub writes : (bottom_array a' p').taken + copies p ≡ (bottom_array a p).taken + accepted_writes (map reply_of rs) + copies p'
  pub wear : bottom_wear w' p' % 2 ^ 64 ≡ (bottom_wear w p + tolls rs) % 2 ^ 64

-- ---- evenness
-- the copies that a layer made over calls, in order: those of which what it asked below was made
abbrev pub copies_by : {A : Type 0} → Layer → Call A → List Copy
copies_by s (Read i) = []
copies_by s (Write i v) = due_copies s i

unfoldable pub copied : {A : Type 0} → Layer → Array A → List (Call A) → List Copy
copied s a [] = []
copied s a (c ∷ cs) = unless_denied (denied_by a c) (copies_by s c) [] ++ copied (layer_at s a c) (next a c) cs

-- each copy reads the place of the line that it moves
unfoldable pub Carried : {A : Type 0} → Layer → Array A → List (Call A) → Type 0
Carried s a [] = Unit {0}
Carried s a (c ∷ cs) = (denied_by a c ≡ None → AllByRecursion (λ k. place s k.moved ≡ k.from) (copies_by s c)) × Carried (layer_at s a c) (next a c) cs

-- in each region the moves of any two lines differ by at most one, and so do the copies into any two places
abbrev pub EvenCopies : Layer → List Copy → Type 0
EvenCopies (scatter n f) ks = Unit {0}
EvenCopies (gaps g) ks = Even g ks
EvenCopies (refresh g) ks = Unit {0}

unfoldable pub Evenly : {A : Type 0} → Pile A → Array A → List (Call A) → Type 0
Evenly bottom a cs = Unit {0}
Evenly (over s b w t) a cs = EvenCopies s (copied s a cs) × Carried s a cs × Evenly t b (asks s a cs)

-- ---- newly fitted
-- what is left of an array's life
abbrev pub left : {A : Type 0} → Array A → ℕ
left b = b.life - b.taken

-- a layer of that kind, just made over what means b: it means a
pub record NewScatter {A : Type 0} (n : ℕ) (f : ℕ → ℕ) (a b : Array A) : Type 0 where
  pub wide : n ≤ length b.lines
  pub stays : (i : ℕ) → i < n → f i < n
  pub lines : a.lines ≡ placed_lines n n f b.lines
  pub taken : a.taken ≡ 0
  pub life : a.life ≡ left b
  pub lives : 1 ≤ a.life

pub record NewGaps {A : Type 0} (g : Gaps) (a b : Array A) : Type 0 where
  pub some : 1 ≤ g.regions
  pub few : g.regions ≤ 16
  pub paced : 1 ≤ g.interval
  pub short : g.interval ≤ 65535
  pub wide : 2 * g.regions ≤ length b.lines
  pub new : g ≡ new_gaps g.regions (region_size (length b.lines) g.regions) g.interval
  pub lines : a.lines ≡ placed_lines (line_count g) (place_count g) (gap_place g) b.lines
  pub taken : a.taken ≡ 0
  pub life : startgap.GreatestLife (left b) g.interval a.life
  pub lives : 1 ≤ a.life

pub record NewRefresh {A : Type 0} (g : Registers) (a b : Array A) : Type 0 where
  pub paced : 1 ≤ g.interval
  pub short : g.interval ≤ 65535
  pub keys : (2 ≤ length g.keys) × (length g.keys ≤ 16)
  pub size : GreatestPower (length b.lines) g.size
  pub wide : 2 ≤ g.size
  pub new : g ≡ new_registers g.size g.interval g.keys
  pub lines : a.lines ≡ placed_lines g.size g.size (place_of g.round) b.lines
  pub taken : a.taken ≡ 0
  pub life : refreshing.GreatestLife g.interval g.size (left b) a.life
  pub lives : 1 ≤ a.life

abbrev pub New : {A : Type 0} → Layer → Array A → Array A → Type 0
New (scatter n f) a b = NewScatter n f a b
New (gaps g) a b = NewGaps g a b
New (refresh g) a b = NewRefresh g a b

-- an unfit layer has no lines and life 0
abbrev pub Unfit : {A : Type 0} → Array A → Type 0
Unfit {A} a = a ≡ record { lines = []; taken = 0; life = 0 }

-- the making of a layer over what means b, has the wear u and lies over t, by its survey: where that says yes it is the layer s, newly
-- fitted; where it says no it is an unfit one, that has made no copies; its wear is that below
abbrev pub MadeOver : {A : Type 0} → Result (Unit {0}) DeniedBy → Layer → Array A → ℕ → Pile A → Pile A → Array A → ℕ → Type 0
MadeOver (Ok x) s b u t p a w = (p ≡ over s b u t) × New s a b × (w ≡ u)
MadeOver (Err d) s b u t p a w = ((r : Layer) × ((made r ≡ 0) × (p ≡ over r b u t))) × Unfit a × (w ≡ u)

-- each layer has just been made, over a bottom in any state; its wear is that below
unfoldable pub Fitted : {A : Type 0} → Array A → ℕ → Pile A → Type 0
Fitted a w bottom = Unit {0}
Fitted a w (over s b u t) = (New s a b ⊎ Unfit a) × (w ≡ u) × Fitted b u t

-- the place in the bottom to which the places lead, layer by layer
unfoldable pub deep : {A : Type 0} → Pile A → ℕ → ℕ
deep bottom i = i
deep (over s b w t) i = deep t (place s i)

-- each line is the bottom's where the places lead
abbrev pub Leads : {A : Type 0} → Array A → Pile A → Type 0
Leads {A} a p =
    (i : ℕ) → i < length a.lines
    → (deep p i < length (bottom_array a p).lines) × ((d : A) → slice_index_or a.lines i d ≡ slice_index_or (bottom_array a p).lines (deep p i) d)

-- ---- the law, whole
pub record Law {A : Type 0} (p : Pile A) (a : Array A) (w : ℕ) (cs : List (Call A)) (rs : List (Answer A)) (p' : Pile A) (a' : Array A) (w' : ℕ) : Type 0 where
  pub ran : Ran p a w cs rs p' a' w'
  pub lasts : Lasts a cs
  pub books : Books p a w rs p' a' w'
  pub leads : Fitted a w p → Leads a p
  pub even : Fitted a w p → Evenly p a cs
