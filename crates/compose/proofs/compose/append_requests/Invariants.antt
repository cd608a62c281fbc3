-- What is left says what the whole says, after the requests that were appended; there is room for what may still come.
use Rattle.compose.specs.Taken.{lines_in}
use Rattle.compose.proofs.Going.{Going}
use Rattle.compose.proofs.compose.append_requests.Given as goal

abbrev pub invariant-loop-line : goal.invariant-loop-line
invariant-loop-line l = Going (lines_in l.fn.lines) l.initial.file (lines_in l.line-iterator) l.file l.size l.number
