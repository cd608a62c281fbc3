-- Requests that were checked: the list of those that are left, and what a call hands out. Assumes nothing.
use Rattle.std.specs.Prelude.{List, Option, IfSome, Ok, Err, Result}
use Rattle.std.specs.Iterator.{YieldsFirstBy}
use Rattle.runfile.specs.declared.fault.Fault.{Fault}
use Rattle.runfile.specs.declared.request.Request.{Request}
use Rattle.runfile.specs.Asks.{Placed, Sixteen, placed_of}
use Rattle.reader.specs.declared.reader.Run.{Run}
use Rattle.reader.specs.declared.requests.CheckedRequests.{CheckedRequests}
use Rattle.reader.specs.Reading.{Reading, requests_from}

abbrev pub requests_left : CheckedRequests → List Placed
requests_left c = requests_from c.requests.file.now c.requests.at c.left

-- the first of the requests that are left was handed out, with sixteen bytes if it is a write; or none, where none is left
pub record HandsOut (old : CheckedRequests) (handed : Option Request) (new : CheckedRequests) : Type 0 where
  pub first : YieldsFirstBy placed_of requests_left old handed new
  pub sixteen : IfSome handed (λ q. Sixteen (Ok q))

-- the requests in the answer of a check
abbrev pub requests_in : Result CheckedRequests Fault → Result (List Placed) Fault
requests_in (Ok c) = Ok (requests_left c)
requests_in (Err e) = Err e

-- the reading in an answer: the run, and the requests that it hands out
abbrev pub reading_in : Result (Run × CheckedRequests) Fault → Result Reading Fault
reading_in (Ok x) = Ok (record { run = x.0; requests = requests_left x.1 })
reading_in (Err e) = Err e
