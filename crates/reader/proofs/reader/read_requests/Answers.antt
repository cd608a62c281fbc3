-- What is handed out is what is read; the theorems are those of the reading.
use Rattle.std.proofs.Common.{◌≡◌, ℕ, Err, ◌++◌, map, length, drop, Result, ap, ◌∙◌, arith}
use Rattle.std.proofs.lemmas.Result.{err_from_is_err_and}
use Rattle.runfile.specs.declared.fault.Fault.{Fault}
use Rattle.runfile.specs.Slots.{slot_at}
use Rattle.reader.specs.Checked.{reading_in, requests_left}
use Rattle.reader.specs.Reading.{Reading, run_in, slots_after}
use Rattle.reader.proofs.Checked.{asking}
use Rattle.reader.proofs.Completeness.{exact, one_meaning}
use Rattle.reader.proofs.Written.{read_back}
use Rattle.reader.proofs.reader.read_requests.Goals as goal

pub returns-in_err-run-clause-exact : goal.returns-in_err-run-clause-exact
returns-in_err-run-clause-exact c =
    let p = err_from_is_err_and c.from_residual.result c.from_residual.ensures.1 in
    let e : c.from_residual.result ≡ Err c.in_err-run.field-0.0 = p.1 ∙ ap Err p.2 in
    exact c.args.file.now (length c.args.slots.now) _ (ap (λ x. run_in (reading_in x)) e ∙ ap run_in c.in_err-run.ensures.answer)

pub returns-in_err-run-clause-one : goal.returns-in_err-run-clause-one
returns-in_err-run-clause-one c = one_meaning c.args.file.now

pub returns-in_err-run-clause-back : goal.returns-in_err-run-clause-back
returns-in_err-run-clause-back c = read_back

pub fill_slots-requires : goal.fill_slots-requires
fill_slots-requires c =
    let a = asking c.args.file.now (length c.args.slots.now) c.in_ok-run.run' c.in_ok-run.requests c.in_ok-run.ensures.answer in
    record { room = omega (arith, a.number, a.ready.room) }

pub returns-clause-slots : goal.returns-clause-slots
returns-clause-slots c =
    let ss = c.args.slots.now in
    let a = asking c.args.file.now (length ss) c.in_ok-run.run' c.in_ok-run.requests c.in_ok-run.ensures.answer in
    c.fill_slots.ensures.slots ∙ ap (λ (n : ℕ). map slot_at (requests_left c.in_ok-run.requests) ++ drop n ss) a.number
    ∙ ap (λ (x : Result Reading Fault). slots_after x ss) c.in_ok-run.ensures.answer

pub returns-clause-exact : goal.returns-clause-exact
returns-clause-exact c = exact c.args.file.now (length c.args.slots.now) _ (ap run_in c.in_ok-run.ensures.answer)

pub returns-clause-one : goal.returns-clause-one
returns-clause-one c = one_meaning c.args.file.now

pub returns-clause-back : goal.returns-clause-back
returns-clause-back c = read_back
