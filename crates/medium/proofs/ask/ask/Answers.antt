-- A read leaves the medium as it was, and a write does what the trait says; either is one call in turn, and a run of one call.
use Rattle.std.proofs.Common.{[], ◌∷◌, Ok, Err, sym, ap, ◌∙◌, subst}
use Rattle.std.proofs.lemmas.Result.{err_from_is_err_and}
use Rattle.medium.specs.Array.{read_reply}
use Rattle.medium.specs.Chain.{InTurn}
use Rattle.medium.specs.Law.{Ran}
use Rattle.medium.specs.Meaning.{means}
use Rattle.medium.proofs.Chains.{turn_read, turn_write}
use Rattle.medium.proofs.Piles.{ran_line, ran_no_line, ran_toll, ran_no_write, ran_at}
use Rattle.medium.proofs.ask.ask.Goals as goal

pub returns-in_err-read-in-Read-clause-turn : goal.returns-in_err-read-in-Read-clause-turn
returns-in_err-read-in-Read-clause-turn g c =
    let e = c.in_err-read-in-Read in
    let p = err_from_is_err_and c.from_residual.result c.from_residual.ensures.1 in
    subst (λ r. InTurn g.M.Medium c.args.medium.now (c.args.call ∷ []) (r ∷ []) c.args.medium.now) (sym (p.1 ∙ ap Err p.2))
    (turn_read g.M.Medium _ _ c.in-Read.line (Err e.field-0.0) c.in-Read.is (ap read_reply e.ensures.answer))

pub returns-in_err-read-in-Read-clause-ran : goal.returns-in_err-read-in-Read-clause-ran
returns-in_err-read-in-Read-clause-ran g c =
    let e = c.in_err-read-in-Read in
    let m = c.args.medium.now in
    let p = err_from_is_err_and c.from_residual.result c.from_residual.ensures.1 in
    let G = g.M.Medium in
    subst (λ r. Ran (G.pile m) (means G m) (G.wear m) (c.args.call ∷ []) (r ∷ []) (G.pile m) (means G m) (G.wear m)) (sym (p.1 ∙ ap Err p.2))
    (ran_at _ _ _ _ _ _ _ _ _ c.in-Read.is (ran_no_line _ _ _ c.in-Read.line e.field-0.0 e.ensures.answer e.ensures.below))

pub returns-in_err-write-in-Write-clause-turn : goal.returns-in_err-write-in-Write-clause-turn
returns-in_err-write-in-Write-clause-turn g c =
    let e = c.in_err-write-in-Write in
    let s = e.ensures in
    let p = err_from_is_err_and c.from_residual-in_err-write-in-Write.result c.from_residual-in_err-write-in-Write.ensures.1 in
    subst (λ r. InTurn g.M.Medium c.args.medium.now (c.args.call ∷ []) (r ∷ []) c.write.new.self) (sym (p.1 ∙ ap Err p.2))
    (turn_write g.M.Medium _ _ _ c.in-Write.line c.in-Write.value (Err e.field-0.0) c.in-Write.is (record { answer = s.answer; below = s.below; effect = s.effect }))

pub returns-in_err-write-in-Write-clause-ran : goal.returns-in_err-write-in-Write-clause-ran
returns-in_err-write-in-Write-clause-ran g c =
    let e = c.in_err-write-in-Write in
    let m = c.args.medium.now in
    let n = c.write.new.self in
    let p = err_from_is_err_and c.from_residual-in_err-write-in-Write.result c.from_residual-in_err-write-in-Write.ensures.1 in
    let G = g.M.Medium in
    subst (λ r. Ran (G.pile m) (means G m) (G.wear m) (c.args.call ∷ []) (r ∷ []) (G.pile n) (means G n) (G.wear n)) (sym (p.1 ∙ ap Err p.2))
    (ran_at _ _ _ _ _ _ _ _ _ c.in-Write.is (ran_no_write _ _ _ _ _ _ c.in-Write.line c.in-Write.value e.field-0.0 e.ensures.answer e.ensures.below))

pub returns-in_ok-read-in-Read-clause-turn : goal.returns-in_ok-read-in-Read-clause-turn
returns-in_ok-read-in-Read-clause-turn g c =
    turn_read g.M.Medium _ _ c.in-Read.line _ c.in-Read.is (ap read_reply c.in_ok-read-in-Read.ensures.answer)

pub returns-in_ok-read-in-Read-clause-ran : goal.returns-in_ok-read-in-Read-clause-ran
returns-in_ok-read-in-Read-clause-ran g c =
    let e = c.in_ok-read-in-Read.ensures in
    ran_at _ _ _ _ _ _ _ _ _ c.in-Read.is (ran_line _ _ _ c.in-Read.line c.in_ok-read-in-Read.field-0 e.answer e.below)

pub returns-in_ok-write-in-Write-clause-turn : goal.returns-in_ok-write-in-Write-clause-turn
returns-in_ok-write-in-Write-clause-turn g c =
    let e = c.in_ok-write-in-Write.ensures in
    turn_write g.M.Medium _ _ _ c.in-Write.line c.in-Write.value (Ok c.in_ok-write-in-Write.field-0) c.in-Write.is (record { answer = e.answer; below = e.below; effect = e.effect })

pub returns-in_ok-write-in-Write-clause-ran : goal.returns-in_ok-write-in-Write-clause-ran
returns-in_ok-write-in-Write-clause-ran g c =
    let e = c.in_ok-write-in-Write.ensures in
    ran_at _ _ _ _ _ _ _ _ _ c.in-Write.is (ran_toll _ _ _ _ _ _ c.in-Write.line c.in-Write.value c.in_ok-write-in-Write.field-0 e.answer e.below)
