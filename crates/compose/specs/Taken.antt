-- What is left of a text's lines, as the entries that they hold. Assumes nothing.
use Rattle.std.specs.Prelude.{◌≡◌, ℕ, List, Ok, Err, Result}
use Rattle.compose.specs.declared.refusal.Fault.{Fault}
use Rattle.compose.specs.declared.text.Lines.{Lines}
use Rattle.compose.specs.declared.text.Line.{Line}
use Rattle.compose.specs.Lines.{Entry, entries, entry_of, last_number}
use Rattle.compose.specs.Pieces.{pieces_of}
use Rattle.compose.specs.Settings.{others}

-- the entries that are left, and the number of the last line
abbrev pub lines_in : Lines → List Entry
lines_in l = entries l.number (pieces_of l.pieces)

abbrev pub last_in : Lines → ℕ
last_in l = last_number l.number (pieces_of l.pieces)

-- one entry was taken
abbrev pub Taken : Lines → Lines → Type 0
Taken before after = (lines_in after ≡ others (lines_in before)) × (last_in after ≡ last_in before)

-- the line that was handed out, as an entry
abbrev pub opened : Result Line Fault → Result Entry Fault
opened (Ok l) = Ok (entry_of l)
opened (Err e) = Err e
