-- Requests that were checked. While some are left, the next of them is handed out without a fault, and those after it have none.
use Rattle.std.proofs.Common.{◌≡◌, ℕ, suc, ◌+◌, List, ◌∷◌, length, Some, None, Ok, Err, Option, Result, sym, refl, ap, ◌∙◌, arith}
use Rattle.std.specs.Result.{result_ok}
use Rattle.std.specs.Iterator.{MakesProgress, item_count}
use Rattle.runfile.specs.declared.fault.Fault.{Fault}
use Rattle.runfile.specs.declared.request.Request.{Request}
use Rattle.runfile.specs.Asks.{Placed, Sixteen, placed_of}
use Rattle.reader.specs.Checked.{HandsOut, requests_left}
use Rattle.reader.specs.Reading.{Handed, Reading, reading, requests_fault, requests_from, run_in, size_at}
use Rattle.reader.specs.declared.reader.Run.{Run}
use Rattle.reader.specs.declared.requests.CheckedRequests.{CheckedRequests}
use Rattle.reader.proofs.Questions.{Ready, ready, same_ok, some_none}
use Rattle.reader.proofs.Walk.{length_requests_from, walk_broke, walk_more}

-- g and e are what the walker holds of the file f and of the end
pub checked_more : (f g : List ℕ) (at to end e k left : ℕ) (r : Result Request Fault) → k ≡ suc left → g ≡ f → e ≡ end → requests_fault f at end k ≡ None
    → Handed f at end r to → requests_fault g to e left ≡ None
checked_more f g at to end e k left (Ok q) ek eg ee h x =
    rw (eg, ee) (walk_more f f at to end end k left ek refl refl x.0 x.2 ∙ h)
checked_more f g at to end e k left (Err d) ek eg ee h x =
    absurd (some_none d (sym (walk_broke f f at end end k left d ek refl refl x.0) ∙ h))

pub hands_out : (s t : CheckedRequests) (r : Result Request Fault) (o : Option Request) → s.left ≡ suc t.left → t.requests.file.now ≡ s.requests.file.now
    → Handed s.requests.file.now s.requests.at s.requests.end r t.requests.at → Sixteen r → o ≡ result_ok r → HandsOut s o t
hands_out s t (Ok q) o el ef x w eo =
    let first : requests_left s ≡ placed_of q ∷ requests_left t =
    ap (λ (n : ℕ). requests_from s.requests.file.now s.requests.at n) el
    ∙ ap (λ (p : Placed). p ∷ requests_from s.requests.file.now (s.requests.at + size_at s.requests.file.now s.requests.at) t.left) (sym x.1)
    ∙ ap (λ (n : ℕ). placed_of q ∷ requests_from s.requests.file.now n t.left) (sym x.2)
    ∙ ap (λ (f : List ℕ). placed_of q ∷ requests_from f t.requests.at t.left) (sym ef) in
    rw eo (record { first = first; sixteen = w })
hands_out s t (Err d) o el ef x w eo =
    absurd (some_none d (sym (walk_broke s.requests.file.now s.requests.file.now s.requests.at s.requests.end s.requests.end s.left t.left d el refl refl x.0) ∙ s.checked))

-- each call that hands one out leaves fewer
pub nearer_end : (s t : CheckedRequests) (o : Option Request) → HandsOut s o t → MakesProgress (λ _. Unit {0}) (item_count requests_left) s o t
nearer_end s t (Some q) h = record { on = λ _. (tt, tt, omega (arith, ap length h.first)); keeps = tt; rests = λ _. tt }
nearer_end s t None h = record { on = λ _. tt; keeps = tt; rests = λ _. tt }

-- what an answer `Ok` tells of a file, with its requests
pub record Asking (f : List ℕ) (slots : ℕ) (run : Run) (requests : CheckedRequests) : Type 0 where
  pub ready : Ready f slots run
  pub same : requests_left requests ≡ requests_from f (run.place + 20) run.number
  pub number : length (requests_left requests) ≡ run.number

pub asking : (f : List ℕ) (slots : ℕ) (run : Run) (requests : CheckedRequests)
    → ◌≡◌ {A = Result Reading Fault} (Ok (record { run = run; requests = requests_left requests })) (reading f slots) → Asking f slots run requests
asking f slots run requests h =
    let r = ready f slots run (ap run_in h) in
    let q : requests_left requests ≡ requests_from f (run.place + 20) run.number = ap (λ (x : Reading). x.requests) (same_ok _ _ (h ∙ r.read)) in
    record { ready = r; same = q; number = ap length q ∙ length_requests_from f (run.place + 20) run.number }
