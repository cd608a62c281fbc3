use Rattle.std.proofs.Common.{◌≡◌, ℕ, ◌-◌, ◌*◌, ◌≤◌, List, ◌++◌, map, length, take, drop, is_err, Ok, Err, Result, sym, refl, ap, ◌∙◌, subst, arith}
use native.Mathlib.Nat.{sub-zero}
use Rattle.std.proofs.lemmas.Result.{err_from_is_err_and, IfOk-from_err}
use Rattle.runfile.specs.declared.fault.Fault.{Fault}
use Rattle.runfile.specs.declared.slot.Slot.{Slot}
use Rattle.reader.specs.Checked.{requests_left}
use Rattle.reader.specs.Reading.{Reading, reading, slots_after}
use Rattle.runfile.specs.Slots.{slot_at}
use Rattle.reader.proofs.Checked.{asking}
use Rattle.runner.specs.Runs.{totals_of, slots_left, bytes_left, counts_left, ArrayHeld}
use Rattle.runner.specs.declared.totals.Totals.{Totals}
use Rattle.runner.proofs.Wholeruns.{surveyed_ok, surveyed_broke, lent_fits, lent_slots, kept_slots, lent_number, whole_totals, whole_slots, whole_bytes, whole_counts, whole_array, first_is}
use Rattle.runner.proofs.run.run_on_bytes.Goals as goal

pub returns-in_err-survey_medium : goal.returns-in_err-survey_medium
returns-in_err-survey_medium c =
    let f = c.args.file.now in
    let bs = c.args.bytes.now in
    let cs = c.args.counts.now in
    let ss = c.args.slots.now in
    let x : Reading = record { run = c.in_ok-run.run'; requests = requests_left c.in_ok-run.requests } in
    let read : reading f (length ss) ≡ Ok x = sym c.in_ok-run.ensures.answer in
    let p = err_from_is_err_and c.from_residual-in_err-survey_medium.result c.from_residual-in_err-survey_medium.ensures.1 in
    let is = surveyed_broke (reading f (length ss)) x (length bs) (length cs) _ read c.in_err-survey_medium.ensures.answer in
    record {
      answer = p.1 ∙ ap {B = Result Totals Fault} Err p.2 ∙ sym (ap (λ (z : Result Reading Fault). totals_of z bs) is);
      slots = c.in_ok-run.ensures.slots ∙ sym (ap (λ (z : Result Reading Fault). slots_left z (reading f (length ss)) bs ss) is);
      bytes = sym (ap (λ (z : Result Reading Fault). bytes_left z bs) is);
      counts = sym (ap (λ (z : Result Reading Fault). counts_left z bs cs) is);
      bound = IfOk-from_err c.from_residual-in_err-survey_medium.result (λ (t : Totals). t.requests ≤ length ss) (ap is_err p.1);
      array = subst (λ z. ArrayHeld z bs) (sym is) tt;
    }

pub slice_bounds-on_bytes-end : goal.slice_bounds-on_bytes-end
slice_bounds-on_bytes-end c = (lent_fits c.in_ok-run.run' c.args.bytes.now c.args.counts.now c.in_ok-survey_medium.ensures.answer).1

pub slice_bounds-on_bytes-end-2 : goal.slice_bounds-on_bytes-end-2
slice_bounds-on_bytes-end-2 c = (lent_fits c.in_ok-run.run' c.args.bytes.now c.args.counts.now c.in_ok-survey_medium.ensures.answer).0

pub on_bytes-totals-requires : goal.on_bytes-totals-requires
on_bytes-totals-requires c =
    let run = c.in_ok-run.run' in
    let f = c.args.file.now in
    let qs = requests_left c.in_ok-run.requests in
    let r = asking f (length c.args.slots.now) run c.in_ok-run.requests c.in_ok-run.ensures.answer in
    let ss : c.read_requests.new.slots ≡ map slot_at qs ++ drop run.number c.args.slots.now =
    c.in_ok-run.ensures.slots ∙ sym (ap (λ (x : Result Reading Fault). slots_after x c.args.slots.now) c.in_ok-run.ensures.answer) in
    record {
      fit = (lent_fits run c.args.bytes.now c.args.counts.now c.in_ok-survey_medium.ensures.answer).2;
      one_each = r.number ∙ sym (ap (λ (l : List Slot). length (take (run.number - 0) l)) ss ∙ lent_number qs run.number r.number c.args.slots.now);
    }

pub returns : goal.returns
returns c =
    let run = c.in_ok-run.run' in
    let f = c.args.file.now in
    let bs = c.args.bytes.now in
    let cs = c.args.counts.now in
    let ss = c.args.slots.now in
    let qs = requests_left c.in_ok-run.requests in
    let r = asking f (length ss) run c.in_ok-run.requests c.in_ok-run.ensures.answer in
    let x : Reading = record { run = run; requests = qs } in
    let read : reading f (length ss) ≡ Ok x = sym c.in_ok-run.ensures.answer in
    let survey = c.in_ok-survey_medium.ensures.answer in
    let is = surveyed_ok (reading f (length ss)) x (length bs) (length cs) read survey in
    let slots : c.read_requests.new.slots ≡ map slot_at qs ++ drop run.number ss =
    c.in_ok-run.ensures.slots ∙ ap (λ (z : Result Reading Fault). slots_after z ss) read in
    let n = ap (λ (l : List Slot). length (take (run.number - 0) l)) slots ∙ lent_number qs run.number r.number ss in
    let em = first_is x bs cs (lent_fits run bs cs survey).0 in
    let ran = c.on_bytes-totals.ensures in
    record {
      answer = whole_totals x bs _ em _ refl c.on_bytes-totals.result _ _ n is ran.totals;
      slots =
          whole_slots x bs _ em _ refl _ _ ss _ c.on_bytes-totals.new.slots _ is
          (ap (take (run.number - 0)) slots ∙ lent_slots qs run.number r.number ss) ran.slots
          (ap (drop (run.number - 0)) slots ∙ kept_slots qs run.number r.number ss);
      bytes = whole_bytes x bs _ em _ refl _ c.on_bytes-totals.new.bytes c.on_bytes-totals.new.counts _ is ran.memory (ap (λ (k : ℕ). drop k bs) (sub-zero (run.settings.lines * 16)));
      counts = whole_counts x bs _ em _ refl _ c.on_bytes-totals.new.bytes c.on_bytes-totals.new.counts _ cs is ran.memory (ap (λ (k : ℕ). drop k cs) (sub-zero run.settings.lines));
      bound = let e = ap (λ (t : Totals). t.requests) ran.totals in let m = r.ready.room in omega (arith, e, n);
      array = whole_array x bs _ em _ refl _ is ran.array;
    }
