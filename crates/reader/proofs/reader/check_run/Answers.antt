-- The settings' fault is that of the whole.
use Rattle.std.proofs.lemmas.Result.{err_from_is_err_and}
use Rattle.reader.proofs.Questions.{first_fault}
use Rattle.reader.proofs.reader.check_run.Goals as goal

pub returns-in_err-run : goal.returns-in_err-run
returns-in_err-run c =
    let p = err_from_is_err_and c.from_residual.result c.from_residual.ensures.1 in
    record { answer = rw (p.1, p.2) (first_fault _ _ _ _ _ c.in_err-run.ensures.answer) }
