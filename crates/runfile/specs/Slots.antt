-- Slots: the letters of their requests, the values of an answer, and the slot of a request. Assumes nothing.
use Rattle.std.specs.Prelude.{ℕ, pos, Some, None, Ok, Err, Option}
use Rattle.line.specs.Answers.{Answer}
use Rattle.line.specs.Denials.{number as denial_number}
use Rattle.line.specs.declared.answer.Accepted.TheVariants.{Line, Toll}
use Rattle.line.specs.declared.load.Load.{Load}
use Rattle.runfile.specs.declared.request.Request.{Request}
use Rattle.runfile.specs.declared.slot.Slot.{Slot}
use Rattle.runfile.specs.declared.slot.Tag.{Tag}
use Rattle.runfile.specs.declared.slot.Tag.TheVariants.{Read as tag_read, Write as tag_write}
use Rattle.runfile.specs.Asks.{Ask, read, write, Placed, placed_of}

-- r and w
abbrev pub tag_letter : Tag → ℕ
tag_letter tag_read = 114
tag_letter tag_write = 119

-- a load of zeros
abbrev pub no_load : Load
no_load = record { time = 0; east = pos 0; north = pos 0; tonnes = 0; activity = record { 0 = 0 } }

-- what an answer is worth: the number of its denial, its toll and its load
pub record Values : Type 0 where
  pub number : ℕ
  pub toll : ℕ
  pub load : Load

-- where there is no answer yet, all three are 0
abbrev pub values : Option (Answer Load) → Values
values None = record { number = 0; toll = 0; load = no_load }
values (Some (Err d)) = record { number = denial_number d; toll = 0; load = no_load }
values (Some (Ok (Toll t))) = record { number = 0; toll = t; load = no_load }
values (Some (Ok (Line l))) = record { number = 0; toll = 0; load = l }

-- the slot of an ask that has not been carried out, at its place
abbrev pub unmarked : ℕ → Ask → Slot
unmarked p (read l) = record { tag = tag_read; line = l; place = p; answer = None }
unmarked p (write l bs) = record { tag = tag_write; line = l; place = p; answer = None }

abbrev pub slot_at : Placed → Slot
slot_at x = unmarked x.place x.ask

-- the slot of a request that was handed out
abbrev pub slot_of : Request → Slot
slot_of q = slot_at (placed_of q)
