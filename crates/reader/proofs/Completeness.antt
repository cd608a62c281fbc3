-- A file that says something is read without a fault, and what is read is what it says. The parts of the file fix its length,
-- hence the places at which the reader looks; what stands there is what stands in the parts.
use Rattle.std.proofs.Common.{◌≡◌, ℕ, ◌+◌, ◌-◌, ◌≤◌, true, List, [], ◌∷◌, ◌++◌, length, get_or, drop, Some, None, Ok, Option, Result, sym, refl, ap, ◌∙◌, subst, append_assoc, arith, length-append}
use Rattle.std.proofs.lemmas.List.{drop_at, drop-drop}
use Rattle.line.specs.Words.{at32}
use Rattle.runfile.specs.declared.fault.Fault.{Fault}
use Rattle.reader.specs.declared.reader.Run.{Run}
use Rattle.runfile.specs.declared.settings.Settings.{Settings}
use Rattle.runfile.specs.Asks.{Ask, Placed, asks}
use Rattle.runfile.specs.Faults.{or_fault}
use Rattle.reader.specs.Laws.{Exact, OneMeaning, placed, read_as, ask_size}
use Rattle.runfile.specs.Layout.{settings_from, known_pile, mark}
use Rattle.reader.specs.Reading.{Reading, reading, run_in, run_of, run_fault, settings_at, requests_of, requests_from, requests_fault}
use Rattle.runfile.specs.RunFile.{PileLetter, Says}
use Rattle.reader.proofs.Places.{Part, part_middle, part_end, at32_in, marked_from, settings_in}
use Rattle.reader.proofs.Questions.{Passed, passed_none, none_passed, same_ok, some_none}
use Rattle.reader.proofs.Soundness.{passed_says, passed_number}
use Rattle.reader.proofs.Spelling.{spelled_found}

letter_known : (p : ℕ) → PileLetter p → known_pile p ≡ true
letter_known p h = grind arith

-- what the reader finds in a file that says s and qs, after a lead of this length
record Finds (f : List ℕ) (s : Settings) (qs : List Ask) (lead slots : ℕ) : Type 0 where
  passed : Passed f slots
  place : settings_at f ≡ lead
  settings : settings_from f (settings_at f) ≡ s
  number : at32 f (length f - 8) ≡ length qs
  requests : requests_of f ≡ placed (lead + 20) qs

finds : (f : List ℕ) (s : Settings) (qs : List Ask) (slots : ℕ) (x : Says f s qs) → length qs ≤ slots → Finds f s qs (length x.lead) slots
finds f s qs slots x le =
    let lead : List ℕ = x.lead in
    let sets : List ℕ = x.settings in
    let reqs : List ℕ = x.requests in
    let tr : List ℕ = x.trailer in
    let w = x.whole in
    let l20 = x.twenty in
    let l16 = x.sixteen in
    let la : length (lead ++ (sets ++ (reqs ++ tr))) ≡ length lead + length (sets ++ (reqs ++ tr)) = length-append lead (sets ++ (reqs ++ tr)) in
    let lb : length (sets ++ (reqs ++ tr)) ≡ length sets + length (reqs ++ tr) = length-append sets (reqs ++ tr) in
    let lc : length (reqs ++ tr) ≡ length reqs + length tr = length-append reqs tr in
    let lw : length f ≡ length (lead ++ (sets ++ (reqs ++ tr))) = ap length w in
    let len : length f ≡ length lead + 20 + length reqs + 16 = omega arith in
    let ld : length (lead ++ (sets ++ reqs)) ≡ length lead + length (sets ++ reqs) = length-append lead (sets ++ reqs) in
    let le2 : length (sets ++ reqs) ≡ length sets + length reqs = length-append sets reqs in
    let dt : drop (length f - 16) f ≡ tr = ap (drop (length f - 16)) (w ∙ simp append_assoc) ∙ drop_at (lead ++ (sets ++ reqs)) tr (length f - 16) (omega arith) in
    let pt : Part f (length f - 16) tr = subst (Part f (length f - 16)) dt (part_end f (length f - 16)) in
    let dm : drop (length f - 4) f ≡ mark = ap (λ (k : ℕ). drop k f) (omega arith) ∙ sym (drop-drop 12 (length f - 16) f) ∙ ap (drop 12) dt ∙ x.marked in
    let ps : Part f (length lead) sets = part_middle f lead sets (reqs ++ tr) w in
    let t0 : at32 f (length f - 16) ≡ length reqs + 20 = at32_in f tr (length f - 16) (length f - 16) 0 pt (omega arith) (omega arith) ∙ x.to_settings in
    let t4 : at32 f (length f - 12) ≡ length reqs = at32_in f tr (length f - 16) (length f - 12) 4 pt (omega arith) (omega arith) ∙ x.to_requests in
    let t8 : at32 f (length f - 8) ≡ length qs = at32_in f tr (length f - 16) (length f - 8) 8 pt (omega arith) (omega arith) ∙ x.number in
    let place : settings_at f ≡ length lead = omega arith in
    let set : settings_from f (settings_at f) ≡ s = ap (settings_from f) place ∙ settings_in f sets (length lead) ps l20 ∙ sym x.settled in
    let pile : get_or f (settings_at f) 0 ≡ s.pile = ap (λ (z : Settings). z.pile) set in
    let dr : drop (length lead + 20) f ≡ reqs ++ tr =
    ap (drop (length lead + 20)) (w ∙ sym (append_assoc lead sets (reqs ++ tr))) ∙ drop_at (lead ++ sets) (reqs ++ tr) (length lead + 20) (length-append lead sets ∙ ap (λ (k : ℕ). length lead + k) l20) in
    let sf = spelled_found qs f reqs tr (length lead + 20) (length f - 16) x.spelled dr (omega arith) in
    let from : settings_at f + 20 ≡ length lead + 20 = ap (λ (k : ℕ). k + 20) place in
    record {
      passed = record {
        long = omega arith;
        short = x.short;
        marked = marked_from f (length f - 4) dm;
        linked = t0 ∙ ap (λ (k : ℕ). k + 20) (sym t4);
        back = omega arith;
        known = ap known_pile pile ∙ letter_known s.pile x.letter;
        room = omega arith;
        walked =
            ap (λ (k : ℕ). requests_fault f k (length f - 16) (at32 f (length f - 8))) from
            ∙ ap (λ (k : ℕ). requests_fault f (length lead + 20) (length f - 16) k) t8 ∙ sf.0;
      };
      place = place;
      settings = set;
      number = t8;
      requests = ap (λ (k : ℕ). requests_from f k (at32 f (length f - 8))) from ∙ ap (λ (k : ℕ). requests_from f (length lead + 20) k) t8 ∙ sf.1;
    }

-- completeness: what the file says is read, at the place where its lead ends
pub says_read : (f : List ℕ) (s : Settings) (qs : List Ask) (slots : ℕ) (x : Says f s qs) → length qs ≤ slots
    → reading f slots ≡ Ok (read_as s (length x.lead) qs)
says_read f s qs slots x le =
    let h = finds f s qs slots x le in
    let none = passed_none f slots h.passed in
    let run : run_of f ≡ record { settings = s; place = length x.lead; number = length qs } =
    ap (λ (z : Settings). record { settings = z; place = settings_at f; number = at32 f (length f - 8) }) h.settings
    ∙ ap (λ (z : ℕ). record { settings = s; place = z; number = at32 f (length f - 8) }) h.place
    ∙ ap (λ (z : ℕ). record { settings = s; place = length x.lead; number = z }) h.number in
    ap (λ (o : Option Fault). or_fault o (record { run = run_of f; requests = requests_of f })) none
    ∙ ap (λ (z : Run). Ok (record { run = z; requests = requests_of f })) run
    ∙ ap (λ (z : List Placed). Ok (record { run = record { settings = s; place = length x.lead; number = length qs }; requests = z })) h.requests

pub asks_placed : (qs : List Ask) (at : ℕ) → asks (placed at qs) ≡ qs
asks_placed [] at = refl
asks_placed (q ∷ qs) at = ap (λ (z : List Ask). q ∷ z) (asks_placed qs (at + ask_size q))

pub one_meaning : (f : List ℕ) → OneMeaning f
one_meaning f s s' qs qs' x y =
    let a = says_read f s qs (length qs + length qs') x (omega arith) in
    let b = says_read f s' qs' (length qs + length qs') y (omega arith) in
    let e : read_as s (length x.lead) qs ≡ read_as s' (length y.lead) qs' = same_ok _ _ (sym a ∙ b) in (
      ap (λ (z : Reading). z.run.settings) e,
      sym (asks_placed qs (length x.lead + 20)) ∙ ap (λ (z : Reading). asks z.requests) e ∙ asks_placed qs' (length y.lead + 20),
    )

-- the reader is exact, whatever the first fault is
exact_by : (f : List ℕ) (slots : ℕ) (o : Option Fault) → run_fault f slots ≡ o
    → Exact f slots (run_in (or_fault o (record { run = run_of f; requests = requests_of f })))
exact_by f slots None e =
    let h = none_passed f slots e in
    let n = passed_number f slots h in
    let x = passed_says f slots h in
    record { says = x.0; place = x.1; number = n; room = h.room }
exact_by f slots (Some x) e =
    λ s qs y le. some_none x (sym e ∙ passed_none f slots (finds f s qs slots y le).passed)

pub exact : (f : List ℕ) (slots : ℕ) (r : Result Run Fault) → r ≡ run_in (reading f slots) → Exact f slots r
exact f slots r e = subst (λ (z : Result Run Fault). Exact f slots z) (sym e) (exact_by f slots (run_fault f slots) refl)
