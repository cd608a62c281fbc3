-- The reader's questions are all answered yes just where it finds no fault. A chain of faults is empty just where each of
-- its links is, and a link is empty just where its test is false.
use Rattle.std.proofs.Common.{◌≡◌, ℕ, ◌+◌, ◌-◌, ◌<◌, ◌≤◌, true, ◌||◌, eqb, List, length, get_or, Some, None, Ok, Err, Option, Result, refl, ap, ◌∙◌, subst, arith}
use Rattle.std.proofs.lemmas.Bool.Decides.{nat_tests}
use Rattle.line.specs.Words.{at32}
use Rattle.runfile.specs.declared.fault.Fault.{Fault}
use Rattle.reader.specs.declared.reader.Run.{Run}
use Rattle.runfile.specs.Faults.{or_then, or_fault}
use Rattle.runfile.specs.Layout.{known_pile, marked_at}
use Rattle.reader.specs.Reading.{Reading, reading, run_in, run_of, run_fault, settings_at, request_fault, requests_fault, requests_from, requests_of, size_at}

pub some_none : (x : Fault) → ◌≡◌ {A = Option Fault} (Some x) None → ⊥
some_none x h = cc

pub both_none : (o p : Option Fault) → o ≡ None → p ≡ None → or_then o p ≡ None
both_none o p ho hp = ap (λ (x : Option Fault). or_then x p) ho ∙ hp

pub none_both : (o p : Option Fault) → or_then o p ≡ None → (o ≡ None) × (p ≡ None)
none_both (Some x) p h = cc
none_both None p h = (refl, h)

-- the fault of a first question is that of both
pub first_fault : {V W : Type 0} (o p : Option Fault) (v : V) (w : W) (e : Fault)
    → ◌≡◌ {A = Result V Fault} (Err e) (or_fault o v) → ◌≡◌ {A = Result W Fault} (Err e) (or_fault (or_then o p) w)
first_fault (Some x) p v w e h = cc
first_fault None p v w e h = cc

-- each question of a file's reading is answered yes
pub record Passed (f : List ℕ) (slots : ℕ) : Type 0 where
  pub long : 36 ≤ length f
  pub short : length f ≤ 65536
  pub marked : marked_at f (length f - 4) ≡ true
  pub linked : at32 f (length f - 16) ≡ at32 f (length f - 12) + 20
  pub back : at32 f (length f - 16) ≤ length f - 16
  pub known : known_pile (get_or f (settings_at f) 0) ≡ true
  pub room : at32 f (length f - 8) ≤ slots
  pub walked : requests_fault f (settings_at f + 20) (length f - 16) (at32 f (length f - 8)) ≡ None

pub passed_none : (f : List ℕ) (slots : ℕ) → Passed f slots → run_fault f slots ≡ None
passed_none f slots h = grind (arith, nat_tests)

pub none_passed : (f : List ℕ) (slots : ℕ) → run_fault f slots ≡ None → Passed f slots
none_passed f slots h =
    record {
      long = grind (arith, nat_tests);
      short = grind (arith, nat_tests);
      marked = grind (arith, nat_tests);
      linked = grind (arith, nat_tests);
      back = grind (arith, nat_tests);
      known = grind (arith, nat_tests);
      room = grind (arith, nat_tests);
      walked = grind (arith, nat_tests);
    }

-- the same of one request
pub record Stands (f : List ℕ) (at end : ℕ) : Type 0 where
  pub before : at < end
  pub letter : (eqb (get_or f at 0) 114 || eqb (get_or f at 0) 119) ≡ true
  pub within : at + size_at f at ≤ end

pub stands_none : (f : List ℕ) (at end : ℕ) → Stands f at end → request_fault f at end ≡ None
stands_none f at end h = grind (arith, nat_tests)

pub none_stands : (f : List ℕ) (at end : ℕ) → request_fault f at end ≡ None → Stands f at end
none_stands f at end h = record { before = grind (arith, nat_tests); letter = grind (arith, nat_tests); within = grind (arith, nat_tests) }

pub same_ok : (a b : Reading) → ◌≡◌ {A = Result Reading Fault} (Ok a) (Ok b) → a ≡ b
same_ok a b h = cc

-- what an answer `Ok` tells of a file
pub record Ready (f : List ℕ) (slots : ℕ) (run : Run) : Type 0 where
  pub room : run.number ≤ slots
  pub read : reading f slots ≡ Ok (record { run = run; requests = requests_from f (run.place + 20) run.number })

ready_of : (f : List ℕ) (slots : ℕ) → Passed f slots → Ready f slots (run_of f)
ready_of f slots h = record {
  room = h.room;
  read = ap (λ (o : Option Fault). or_fault o (record { run = run_of f; requests = requests_of f })) (passed_none f slots h);
}

ready_by : (f : List ℕ) (slots : ℕ) (run : Run) (o : Option Fault) → run_fault f slots ≡ o
    → ◌≡◌ {A = Result Run Fault} (Ok run) (run_in (or_fault o (record { run = run_of f; requests = requests_of f }))) → Ready f slots run
ready_by f slots run None e h =
    let same : run_of f ≡ run = cc in
    subst (λ (z : Run). Ready f slots z) same (ready_of f slots (none_passed f slots e))
ready_by f slots run (Some x) e h = cc

pub ready : (f : List ℕ) (slots : ℕ) (run : Run) → ◌≡◌ {A = Result Run Fault} (Ok run) (run_in (reading f slots)) → Ready f slots run
ready f slots run h = ready_by f slots run (run_fault f slots) refl h
