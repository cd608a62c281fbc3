-- The flat array, and what reads and writes do to whatever means one. Assumes nothing.
use Rattle.std.specs.Prelude.{◌≡◌, ℕ, ◌+◌, ◌-◌, ◌%◌, ◌^◌, ◌<◌, cond, List, [], ◌∷◌, length, Some, None, Ok, Err, Option, Result, nat_lt, slice_set}
use Rattle.std.specs.Option.{ok_or}
use Rattle.std.specs.List.{slice_get}
use Rattle.line.specs.declared.denial.Denial.{Denial}
use Rattle.line.specs.declared.denial.Denial.TheVariants.{NoSuchLine, LifeUsed}
use Rattle.medium.specs.declared.call.Call.{Call}
use Rattle.medium.specs.declared.call.Call.TheVariants.{Read, Write}

-- the flat array: a list of lines, how many writes it has taken, and how many it takes in all (its life)
pub record Array (A : Type 0) : Type 0 where
  pub lines : List A
  pub taken : ℕ
  pub life : ℕ

-- the array that m means, by the three members that say so
abbrev pub array_of : {M A : Type 0} → (M → List A) → (M → ℕ) → (M → ℕ) → M → Array A
array_of lines taken life m = record { lines = lines m; taken = taken m; life = life m }

-- the first question that denies a call, if one does: is there such a line? and for a write: is life left?
unfoldable pub denied_by : {A : Type 0} → Array A → Call A → Option Denial
denied_by a (Read i) = cond (nat_lt i (length a.lines)) None (Some NoSuchLine)
denied_by a (Write i v) =
    cond (nat_lt i (length a.lines)) (cond (nat_lt a.taken a.life) None (Some LifeUsed)) (Some NoSuchLine)

-- x where nothing denies, else y
abbrev pub unless_denied : {X : Type 0} → Option Denial → X → X → X
unless_denied None x y = x
unless_denied (Some d) x y = y

-- the array after a call that is accepted: a read alters nothing, a write one line and taken
abbrev pub accepted : {A : Type 0} → Array A → Call A → Array A
accepted a (Read i) = a
accepted a (Write i v) = record { lines = slice_set a.lines i v; taken = a.taken + 1; life = a.life }

-- the array after any call: a denial alters nothing
unfoldable pub next : {A : Type 0} → Array A → Call A → Array A
next a c = unless_denied (denied_by a c) (accepted a c) a

-- the array after calls, in their order
unfoldable pub after : {A : Type 0} → Array A → List (Call A) → Array A
after a [] = a
after a (c ∷ cs) = after (next a c) cs

-- what a read of line i answers
abbrev pub fetched : {A : Type 0} → List A → ℕ → Result A Denial
fetched ls i = ok_or (slice_get ls i) NoSuchLine

-- what the array replies to a call: a line, that it was written, or a denial; tolls are none of its business
pub data Reply (A : Type 0) : Type 0 where
  line : A → Reply A
  written : Reply A
  denied : Denial → Reply A

abbrev pub read_reply : {A : Type 0} → Result A Denial → Reply A
read_reply (Ok v) = line v
read_reply (Err d) = denied d

abbrev pub write_reply : {A : Type 0} → Option Denial → Reply A
write_reply None = written
write_reply (Some d) = denied d

abbrev pub reply : {A : Type 0} → Array A → Call A → Reply A
reply a (Read i) = read_reply (fetched a.lines i)
reply a (Write i v) = write_reply (denied_by a (Write i v))

-- what the array replies to calls, in their order
unfoldable pub replies : {A : Type 0} → Array A → List (Call A) → List (Reply A)
replies a [] = []
replies a (c ∷ cs) = reply a c ∷ replies (next a c) cs

-- the toll t of a write is what the wear grew by, from w to w', modulo 2 ^ 64; it grew by at least one
abbrev pub Tolled : ℕ → ℕ → ℕ → Type 0
Tolled w w' t = (w < w') × (t ≡ (w' - w) % 2 ^ 64)

abbrev pub Answered : {A : Type 0} → Array A → ℕ → Call A → ℕ → Result ℕ Denial → Type 0
Answered a w c w' (Ok t) = (denied_by a c ≡ None) × Tolled w w' t
Answered a w c w' (Err d) = (denied_by a c ≡ Some d) × (w' ≡ w)

-- a write of v to line i, from array a and wear w to array a' and wear w', that answers r
pub record Wrote {A : Type 0} (a : Array A) (w i : ℕ) (v : A) (a' : Array A) (w' : ℕ) (r : Result ℕ Denial) : Type 0 where
  pub array : a' ≡ next a (Write i v)
  pub answer : Answered a w (Write i v) w' r
