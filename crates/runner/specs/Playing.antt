-- What it is to carry out requests on a medium of loads. Assumes nothing.
use Rattle.std.specs.Prelude.{◌≡◌, List, [], ◌∷◌, Some}
use Rattle.line.specs.Answers.{Answer}
use Rattle.line.specs.Loads.{load_of}
use Rattle.line.specs.declared.load.Load.{Load}
use Rattle.medium.specs.Chain.{InTurn}
use Rattle.medium.specs.declared.call.Call.{Call}
use Rattle.medium.specs.declared.call.Call.TheVariants.{Read, Write}
use Rattle.medium.specs.declared.medium.Medium.{Ghosts}
use Rattle.runfile.specs.Asks.{Ask, read, write, Placed}
use Rattle.runfile.specs.declared.slot.Slot.{Slot}

-- what a request asks of a medium of loads
abbrev pub call_of : Ask → Call Load
call_of (read i) = Read i
call_of (write i bs) = Write i (load_of bs)

abbrev pub calls_of : List Placed → List (Call Load)
calls_of [] = []
calls_of (p ∷ ps) = call_of p.ask ∷ calls_of ps

-- a slot with its answer, and slots with theirs
abbrev pub answered : Slot → Answer Load → Slot
answered s r = record { tag = s.tag; line = s.line; place = s.place; answer = Some r }

abbrev pub marked : List Slot → List (Answer Load) → List Slot
marked [] rs = []
marked (s ∷ ss) [] = s ∷ ss
marked (s ∷ ss) (r ∷ rs) = answered s r ∷ marked ss rs

-- the calls cs, put to the medium m one after the other, lead to n; the slots ss, marked with their answers, are ss'
abbrev pub Played : {M : Type 0} → Ghosts M Load → M → List (Call Load) → List Slot → List Slot → M → Type 0
Played g m cs ss ss' n = (rs : List (Answer Load)) × ((ss' ≡ marked ss rs) × InTurn g m cs rs n)
