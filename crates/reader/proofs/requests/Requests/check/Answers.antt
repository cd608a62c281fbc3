-- A turn takes the fault of what is left one request on; an exit by `?` is the fault of that request.
use Rattle.std.proofs.Common.{◌+◌, ◌-◌, Option, sym, ap, ◌∙◌, arith}
use Rattle.std.proofs.lemmas.Result.{err_from_is_err_and}
use Rattle.runfile.specs.declared.fault.Fault.{Fault}
use Rattle.runfile.specs.Faults.{or_fault}
use Rattle.reader.specs.Reading.{requests_from}
use Rattle.reader.proofs.Walk.{walk_broke, walk_more}
use Rattle.reader.proofs.requests.Requests.check.Goals as goal

pub loop-preserved : goal.loop-preserved
loop-preserved c =
    let n = c.in_ok-next.ensures in
    let i = c.loop.invariant in
    let s = walk_more c.args.self.file.now _ c.loop.requests.at c.next.new.self.at c.loop.requests.end c.args.self.end (c.args.number - c.loop.counter) (c.args.number - (c.loop.counter + 1))
    (omega arith) i.0 i.1 n.handed.0 n.handed.2 in
    (n.file ∙ i.0, n.end ∙ i.1, s ∙ i.2)

pub returns-in_err-next : goal.returns-in_err-next
returns-in_err-next c =
    let p = err_from_is_err_and c.from_residual.result c.from_residual.ensures.1 in
    let i = c.loop.invariant in
    let b = walk_broke c.args.self.file.now _ c.loop.requests.at c.loop.requests.end c.args.self.end (c.args.number - c.loop.counter) (c.args.number - (c.loop.counter + 1)) _
    (omega arith) i.0 i.1 c.in_err-next.ensures.handed.0 in
    record { answer = rw (p.1, p.2) (sym (ap (λ (o : Option Fault). or_fault o (requests_from c.args.self.file.now c.args.self.at c.args.number)) (sym i.2 ∙ b))) }
