-- One entry is taken and its request appended.
use Rattle.std.proofs.Common.{◌∙◌, sym, ap, arith, subst, ℕ, ◌+◌}
use Rattle.compose.specs.Fields.{at_line}
use Rattle.compose.specs.Taken.{lines_in}
use Rattle.compose.proofs.Going.{Going, going_more}
use Rattle.compose.proofs.compose.append_requests.Goals as goal

pub loop-line-preserved : goal.loop-line-preserved
loop-line-preserved c =
    subst (λ (n : ℕ). Going (lines_in c.args.lines) c.args.file.now (lines_in c.next.new.self) c.put_request.new.file (c.loop-line.size + n) (c.loop-line.number + 1))
    (sym c.size-size.ensures.size)
    (going_more c.loop-line.invariant c.in-Some.ensures.steps.0 (c.in_ok-request.ensures.answer ∙ ap (at_line c.in-Some.line.number) c.read_request.ensures.answer) (omega arith) c.put_request.ensures.put)
