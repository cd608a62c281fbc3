-- The refresh layer over a medium: what it means by its registers and the array below, its survey, and its answers on places. Assumes nothing.
use Rattle.std.specs.Prelude.{◌≡◌, ℕ, ◌+◌, ◌/◌, false, cond, List, length, Some, None, Ok, Err, Option, Result, nat_le, nat_lt}
use Rattle.line.specs.declared.denial.Denial.{Denial}
use Rattle.line.specs.declared.denial.Denial.TheVariants.{NoSuchLine, LifeOutOfRange, SettingsOutOfRange, TooFewLines}
use Rattle.line.specs.Denials.{ask, in_range}
use Rattle.refresh.specs.Life.{life_of}
use Rattle.refresh.specs.Powers.{greatest_power}
use Rattle.refresh.specs.Refresh.{Registers, place_of, holder_at, waits, pointer_mate, previous_place, current_place}
use Rattle.medium.specs.Array.{Array}
use Rattle.medium.specs.Law.{left, NewRefresh, Unfit}
use Rattle.medium.specs.Pile.{refresh, Pile, over, placed_lines, paid_life}
use Rattle.refresher.specs.declared.registers.Exchange.{Exchange}
use Rattle.refresher.specs.declared.registers.Registers.{Registers as Fields}

-- the registers that the struct holds
abbrev pub registers : Fields → Registers
registers x =
    record { size = x.size; interval = x.interval; keys = x.keys.items; round = x.round; due = x.due; copies = x.copies }

-- the exchange that the next accepted write brings, if it brings one
abbrev pub due_exchange : Registers → Option Exchange
due_exchange g =
    cond (waits g) None
    (cond (nat_lt g.round.pointer (pointer_mate g.round))
    (Some (record { previous = previous_place g.round; current = current_place g.round }))
    None)

-- the lines of a layer with registers g over the array b
abbrev pub refresh_lines : {A : Type 0} → Registers → Array A → List A
refresh_lines g b = placed_lines g.size g.size (place_of g.round) b.lines

-- its life: the stated one, as long as what is left below pays for it and for the copies
abbrev pub refresh_life : {A : Type 0} → Registers → ℕ → ℕ → Array A → ℕ
refresh_life g life taken b =
    paid_life life taken (life + life / g.interval + g.size / 2) (taken + g.copies + left b)

-- the array that it means
abbrev pub refresh_array : {A : Type 0} → Registers → ℕ → ℕ → Array A → Array A
refresh_array g life taken b = record { lines = refresh_lines g b; taken = taken; life = refresh_life g life taken b }

-- the first no of the questions on the ring's length, the interval, the count of lines below and what is left of the life below
abbrev pub refresh_survey : ℕ → ℕ → ℕ → ℕ → Result (Unit {0}) Denial
refresh_survey ring interval count room =
    ask (cond (in_range 2 16 ring) (in_range 1 65535 interval) false) SettingsOutOfRange
    (ask (nat_le 2 (greatest_power count)) TooFewLines
    (ask (nat_le 1 (life_of interval (greatest_power count) room)) LifeOutOfRange (Ok tt)))

-- the place of line i
abbrev pub place_answer : {A : Type 0} → Registers → Array A → ℕ → Result ℕ Denial
place_answer g b i = cond (nat_lt i (length (refresh_lines g b))) (Ok (place_of g.round i)) (Err NoSuchLine)

-- the line at place q of the array below, if one lies there
abbrev pub holder_answer : {A : Type 0} → Registers → Array A → ℕ → Result (Option ℕ) Denial
holder_answer g b q = cond (nat_lt q (length b.lines)) (Ok (holder_at g.size g.round q)) (Err NoSuchLine)

-- a layer just made, with registers g, over what means b with wear u and has t below it: it means a with wear w, over the pile p
pub record Made {A : Type 0} (g : Registers) (a b : Array A) (w u : ℕ) (p t : Pile A) : Type 0 where
  pub new : NewRefresh g a b
  pub wear : w ≡ u
  pub pile : p ≡ over (refresh g) b u t

-- the same where the settings do not fit
pub record MadeUnfit {A : Type 0} (g : Registers) (a b : Array A) (w u : ℕ) (p t : Pile A) : Type 0 where
  pub none : Unfit a
  pub copies : g.copies ≡ 0
  pub wear : w ≡ u
  pub pile : p ≡ over (refresh g) b u t
