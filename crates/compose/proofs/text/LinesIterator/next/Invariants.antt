-- The lines that were skipped say nothing.
use Rattle.std.proofs.Common.{◌≡◌, length}
use Rattle.compose.specs.Lines.{entries, last_number}
use Rattle.compose.specs.Pieces.{pieces_of}
use Rattle.compose.proofs.text.LinesIterator.next.Given as goal

abbrev pub invariant-loop-bytes : goal.invariant-loop-bytes
invariant-loop-bytes l =
    (entries l.initial.self.number (pieces_of l.initial.self.pieces) ≡ entries l.self.number (pieces_of l.self.pieces))
    × (last_number l.self.number (pieces_of l.self.pieces) ≡ last_number l.initial.self.number (pieces_of l.initial.self.pieces))

abbrev pub decreases-loop-bytes : goal.decreases-loop-bytes
decreases-loop-bytes l = length (pieces_of l.self.pieces)
