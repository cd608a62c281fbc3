-- Slots and faults as text, byte by byte. Assumes nothing.
use Rattle.std.specs.Prelude.{ℕ, List, [], ◌∷◌, ◌++◌, codes, decimal, Some, None, Ok, Err, Option}
use Rattle.line.specs.Answers.{Answer}
use Rattle.line.specs.Denials.{number}
use Rattle.line.specs.Loads.{load_text}
use Rattle.line.specs.declared.answer.Accepted.TheVariants.{Line, Toll}
use Rattle.line.specs.declared.load.Load.{Load}
use Rattle.runfile.specs.declared.fault.Fault.{Fault}
use Rattle.runfile.specs.declared.fault.Stage.{Stage}
use Rattle.runfile.specs.declared.fault.Stage.TheVariants.{Trailer, Settings, Request, Pile}
use Rattle.runfile.specs.declared.slot.Slot.{Slot}
use Rattle.runfile.specs.Slots.{tag_letter}

-- after a request: ok with the toll or the load, or no with the denial's number; nothing where it has no answer yet
abbrev pub answer_text : Option (Answer Load) → List ℕ
answer_text None = []
answer_text (Some (Err d)) = codes " no " ++ decimal (number d)
answer_text (Some (Ok (Toll t))) = codes " ok " ++ decimal t
answer_text (Some (Ok (Line l))) = codes " ok " ++ load_text l

-- a request's letter and line, and its answer
abbrev pub slot_text : Slot → List ℕ
slot_text s = tag_letter s.tag ∷ (codes " " ++ (decimal s.line ++ answer_text s.answer))

-- a stage's letter; that of the pile is followed directly by the height
abbrev pub stage_text : Stage → List ℕ
stage_text Trailer = codes "T"
stage_text Settings = codes "S"
stage_text Request = codes "Q"
stage_text (Pile height) = codes "P" ++ decimal height

abbrev pub fault_text : Fault → List ℕ
fault_text f =
    codes "file no " ++ (decimal (number f.denial) ++ (codes " at " ++ (decimal f.place ++ (codes " stage " ++ stage_text f.stage))))
