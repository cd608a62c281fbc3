-- The faults of the requests that are left are those of all.
use Rattle.std.proofs.Common.{◌≡◌, ◌-◌}
use Rattle.reader.specs.Reading.{requests_fault}
use Rattle.reader.proofs.requests.Requests.check.Given as goal

abbrev pub invariant-loop : goal.invariant-loop
invariant-loop l =
    (l.requests.file.now ≡ l.self.file.now) × (l.requests.end ≡ l.self.end)
    × (requests_fault l.self.file.now l.requests.at l.self.end (l.number - l.counter) ≡ requests_fault l.self.file.now l.self.at l.self.end l.number)
