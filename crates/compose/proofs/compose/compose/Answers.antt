-- The theorems are those of the text.
use Rattle.std.proofs.Common.{Ok, arith}
use Rattle.std.proofs.lemmas.Grind.{common_steps}
use Rattle.compose.specs.Composing.{Composed}
use Rattle.compose.proofs.Between.{cuts}
use Rattle.compose.proofs.Exactness.{exact, one_meaning}
use Rattle.compose.proofs.Widths.{fitting}
use Rattle.compose.proofs.compose.compose.Goals as goal

pub returns-in_err-reserve-clause-one : goal.returns-in_err-reserve-clause-one
returns-in_err-reserve-clause-one c = one_meaning c.args.text.now

pub returns-in_err-reserve-clause-fits : goal.returns-in_err-reserve-clause-fits
returns-in_err-reserve-clause-fits c = fitting c.args.text.now

pub returns-in_err-reserve-clause-cuts : goal.returns-in_err-reserve-clause-cuts
returns-in_err-reserve-clause-cuts c = cuts

pub returns-in_err-answer-clause-exact : goal.returns-in_err-answer-clause-exact
returns-in_err-answer-clause-exact c =
    let a : Composed c.args.text.now c.args.file.now c.from_residual-in_err-answer.result c.if-is_err.file = grind (arith, common_steps) in
    exact c.args.text.now c.args.file.now c.from_residual-in_err-answer.result c.if-is_err.file a

pub returns-in_err-answer-clause-one : goal.returns-in_err-answer-clause-one
returns-in_err-answer-clause-one c = one_meaning c.args.text.now

pub returns-in_err-answer-clause-fits : goal.returns-in_err-answer-clause-fits
returns-in_err-answer-clause-fits c = fitting c.args.text.now

pub returns-in_err-answer-clause-cuts : goal.returns-in_err-answer-clause-cuts
returns-in_err-answer-clause-cuts c = cuts

pub returns-clause-exact : goal.returns-clause-exact
returns-clause-exact c =
    let a : Composed c.args.text.now c.args.file.now (Ok tt) c.if-is_err.file = grind (arith, common_steps) in
    exact c.args.text.now c.args.file.now (Ok tt) c.if-is_err.file a

pub returns-clause-one : goal.returns-clause-one
returns-clause-one c = one_meaning c.args.text.now

pub returns-clause-fits : goal.returns-clause-fits
returns-clause-fits c = fitting c.args.text.now

pub returns-clause-cuts : goal.returns-clause-cuts
returns-clause-cuts c = cuts
