-- The request that is handed out is the first of those that are left, and has no fault.
use Rattle.std.proofs.Common.{arith}
use Rattle.reader.proofs.Checked.{checked_more, hands_out, nearer_end}
use Rattle.reader.proofs.requests.CheckedRequestsIterator.next.Goals as goal

pub invariant_of-self : goal.invariant_of-self
invariant_of-self c =
    let s = c.args.self.now in
    let n = c.next.ensures in
    record { checked = checked_more s.requests.file.now _ s.requests.at _ s.requests.end _ s.left _ c.next.result (omega (arith, c.in_ok-self.ensures)) n.file n.end s.checked n.handed }

pub returns-clause-steps : goal.returns-clause-steps
returns-clause-steps c =
    let n = c.next.ensures in
    hands_out c.args.self.now _ c.next.result c.ok.result (omega (arith, c.in_ok-self.ensures)) n.file n.handed n.sixteen c.ok.ensures.value

pub returns-clause-goes : goal.returns-clause-goes
returns-clause-goes c =
    let n = c.next.ensures in
    nearer_end c.args.self.now _ c.ok.result (hands_out c.args.self.now _ c.next.result c.ok.result (omega (arith, c.in_ok-self.ensures)) n.file n.handed n.sixteen c.ok.ensures.value)
