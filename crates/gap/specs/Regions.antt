-- A layer of gap regions, by its registers: what it means over what lies below, and what its calls answer. Assumes nothing.
use Rattle.std.specs.Prelude.{◌≡◌, ℕ, ◌+◌, ◌*◌, ◌/◌, cond, List, Ok, Err, Option, Result, nat_le, nat_lt}
use Rattle.line.specs.Denials.{ask, in_range}
use Rattle.line.specs.declared.denial.Denial.{Denial}
use Rattle.line.specs.declared.denial.Denial.TheVariants.{NoSuchLine, LifeOutOfRange, SettingsOutOfRange, TooFewLines}
use Rattle.startgap.specs.Life.{life_of}
use Rattle.startgap.specs.Regions.{Gaps, line_count, place_count, gap_place, gap_holder}
use Rattle.medium.specs.Array.{Array}
use Rattle.medium.specs.Law.{left, NewGaps, Unfit}
use Rattle.medium.specs.Pile.{gaps, Pile, over, placed_lines, paid_life}

-- ---- what the layer means, over what means the array b
abbrev pub gap_lines : {A : Type 0} → Gaps → List A → List A
gap_lines g ls = placed_lines (line_count g) (place_count g) (gap_place g) ls

abbrev pub gap_life : Gaps → ℕ → ℕ → ℕ → ℕ
gap_life g life taken left_below = paid_life life taken (life + life / g.interval) (taken + g.copies + left_below)

abbrev pub gap_array : {A : Type 0} → Gaps → ℕ → ℕ → Array A → Array A
gap_array g life taken b = record { lines = gap_lines g b.lines; taken = taken; life = gap_life g life taken (left b) }

-- ---- what is answered on places
-- the place of a line, where there are that many lines
abbrev pub place_answer : Gaps → ℕ → ℕ → Result ℕ Denial
place_answer g count line = cond (nat_lt line count) (Ok (gap_place g line)) (Err NoSuchLine)

-- the line at a place, where there are that many places
abbrev pub holder_answer : Gaps → ℕ → ℕ → Result (Option ℕ) Denial
holder_answer g count place = cond (nat_lt place count) (Ok (gap_holder g place)) (Err NoSuchLine)

-- ---- the making
-- the first no of the questions on the settings, the lines below, and the life
abbrev pub gap_survey : ℕ → ℕ → ℕ → ℕ → Result (Unit {0}) Denial
gap_survey regions interval count left_below =
    ask (in_range 1 16 regions) SettingsOutOfRange
    (ask (in_range 1 65535 interval) SettingsOutOfRange
    (ask (nat_le (2 * regions) count) TooFewLines (ask (nat_le 1 (life_of left_below interval)) LifeOutOfRange (Ok tt))))

-- a layer that means a, with wear w, over the pile p, was just made over what means b, with wear u, over t: the survey said yes
pub record Made {A : Type 0} (g : Gaps) (a : Array A) (w : ℕ) (p : Pile A) (b : Array A) (u : ℕ) (t : Pile A) : Type 0 where
  pub new : NewGaps g a b
  pub taken : a.taken ≡ 0
  pub wear : w ≡ u
  pub pile : p ≡ over (gaps g) b u t

-- the same where it said no
pub record MadeUnfit {A : Type 0} (g : Gaps) (a : Array A) (w : ℕ) (p : Pile A) (b : Array A) (u : ℕ) (t : Pile A) : Type 0 where
  pub unfit : Unfit a
  pub copies : g.copies ≡ 0
  pub wear : w ≡ u
  pub pile : p ≡ over (gaps g) b u t
