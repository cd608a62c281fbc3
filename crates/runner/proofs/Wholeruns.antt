-- A whole run. What is read and surveyed fixes the parts of slots and memory that are lent; what comes back from them is put before
-- what was not lent. Each lemma takes the terms as the code has them, and an equation for each.
use Rattle.std.proofs.Common.{◌≡◌, ℕ, ◌-◌, ◌*◌, ◌≤◌, List, ◌++◌, map, length, take, drop, replicate, None, Ok, Err, Option, Result, sym, ap, ◌∙◌, subst, arith}
use native.Mathlib.Nat.{sub-zero}
use Rattle.std.proofs.lemmas.List.{length-take-le, take_at, drop_at, length-map}
use Rattle.line.specs.declared.load.Load.{Load}
use Rattle.medium.specs.Array.{after, replies}
use Rattle.medium.specs.declared.call.Call.{Call}
use Rattle.media.specs.Bytes.{byte_survey}
use Rattle.runfile.specs.declared.fault.Fault.{Fault}
use Rattle.reader.specs.declared.reader.Run.{Run}
use Rattle.runfile.specs.declared.slot.Slot.{Slot}
use Rattle.runfile.specs.Faults.{or_fault}
use Rattle.reader.specs.Reading.{Reading}
use Rattle.runfile.specs.Asks.{Placed}
use Rattle.runfile.specs.Slots.{slot_at}
use Rattle.runner.specs.OnBytes.{Memory, array_in, memory_after, byte_answer, byte_totals}
use Rattle.runner.specs.Playing.{calls_of, marked}
use Rattle.runner.specs.Runs.{room, at_height, medium_fault, surveyed, first_memory, first_array, last_memory, last_array, marked_slots, totals_of, slots_left, bytes_left, counts_left, ArrayHeld}
use Rattle.runner.specs.declared.totals.Totals.{Totals}

-- ---- the survey
survey_passed : (lines life b c place : ℕ) → at_height 0 place (byte_survey 16 lines life (room lines b c)) ≡ None
    → (lines ≤ c) × (lines * 16 ≤ b) × (byte_survey 16 lines life (lines * 16) ≡ Ok tt)
survey_passed lines life b c place h = (grind (arith, h), grind (arith, h), grind (arith, h))

none_from_ok : {V : Type 0} (o : Option Fault) (u v : V) → ◌≡◌ {A = Result V Fault} (Ok u) (or_fault o v) → o ≡ None
none_from_ok o u v h = grind (arith, h)

pub surveyed_ok : (read : Result Reading Fault) (x : Reading) (b c : ℕ) → read ≡ Ok x → ◌≡◌ {A = Result (Unit {0}) Fault} (Ok tt) (or_fault (medium_fault x.run b c) tt) → surveyed read b c ≡ Ok x
surveyed_ok read x b c e h =
    ap (λ (r : Result Reading Fault). surveyed r b c) e ∙ ap (λ (o : Option Fault). or_fault o x) (none_from_ok (medium_fault x.run b c) tt tt h)

pub surveyed_broke : (read : Result Reading Fault) (x : Reading) (b c : ℕ) (f : Fault) → read ≡ Ok x → ◌≡◌ {A = Result (Unit {0}) Fault} (Err f) (or_fault (medium_fault x.run b c) tt) → surveyed read b c ≡ Err f
surveyed_broke read x b c f e h = ap (λ (r : Result Reading Fault). surveyed r b c) e ∙ grind (arith, h)

-- the memory that is lent is enough, and its parts pass the survey
pub lent_fits : (run : Run) (bs cs : List ℕ) → ◌≡◌ {A = Result (Unit {0}) Fault} (Ok tt) (or_fault (medium_fault run (length bs) (length cs)) tt)
    → (run.settings.lines ≤ length cs) × (run.settings.lines * 16 ≤ length bs)
    × (byte_survey 16 (length (take (run.settings.lines - 0) cs)) run.settings.life (length (take (run.settings.lines * 16 - 0) bs)) ≡ Ok tt)
lent_fits run bs cs h =
    let n : ℕ = run.settings.lines in
    let s = survey_passed n run.settings.life (length bs) (length cs) run.place (none_from_ok _ tt tt h) in
    let p : length (take (n - 0) cs) ≡ n = ap (λ (k : ℕ). length (take k cs)) (sub-zero n) ∙ length-take-le n cs s.0 in
    let q : length (take (n * 16 - 0) bs) ≡ n * 16 = ap (λ (k : ℕ). length (take k bs)) (sub-zero (n * 16)) ∙ length-take-le (n * 16) bs s.1 in (
      s.0,
      s.1,
      ap (λ (k : ℕ). byte_survey 16 k run.settings.life (length (take (n * 16 - 0) bs))) p
          ∙ ap (λ (k : ℕ). byte_survey 16 n run.settings.life k) q ∙ s.2,
    )

-- ---- the slots of n requests
module _ (qs : List Placed) (n : ℕ) (e : length qs ≡ n) (ss : List Slot) where
  slots_number : length (map slot_at qs) ≡ n
  slots_number = length-map qs slot_at ∙ e

  pub lent_slots : take (n - 0) (map slot_at qs ++ drop n ss) ≡ map slot_at qs
  lent_slots = ap (λ (k : ℕ). take k (map slot_at qs ++ drop n ss)) (sub-zero n) ∙ take_at (map slot_at qs) (drop n ss) n slots_number

  pub kept_slots : drop (n - 0) (map slot_at qs ++ drop n ss) ≡ drop n ss
  kept_slots = ap (λ (k : ℕ). drop k (map slot_at qs ++ drop n ss)) (sub-zero n) ∙ drop_at (map slot_at qs) (drop n ss) n slots_number

  pub lent_number : length (take (n - 0) (map slot_at qs ++ drop n ss)) ≡ n
  lent_number = ap length lent_slots ∙ slots_number

-- ---- the whole, of what was read as x: m is the memory that was lent, and cs are the calls
module _ (x : Reading) (bs : List ℕ) (m : Memory) (em : m ≡ first_memory x bs) (cs : List (Call Load)) (ec : cs ≡ calls_of x.requests) where
  abbrev life : ℕ
  life = x.run.settings.life

  lent_array : after (array_in m life) cs ≡ last_array x bs
  lent_array = ap (λ (z : Memory). after (array_in z life) cs) em ∙ ap (after (first_array x bs)) ec

  lent_memory : memory_after m life cs ≡ last_memory x bs
  lent_memory = ap (λ (z : Memory). memory_after z life cs) em ∙ ap (memory_after (first_memory x bs) life) ec

  pub whole_totals : (t : Totals) (n : ℕ) (r : Result Reading Fault) → n ≡ x.run.number → r ≡ Ok x → t ≡ byte_totals n (after (array_in m life) cs) → Ok t ≡ totals_of r bs
  whole_totals t n r en er et = ap {B = Result Totals Fault} Ok (et ∙ ap (byte_totals n) lent_array ∙ ap (λ (k : ℕ). byte_totals k (last_array x bs)) en) ∙ sym (ap (λ (z : Result Reading Fault). totals_of z bs) er)

  pub whole_slots : (r read : Result Reading Fault) (ss xs ys zs : List Slot) → r ≡ Ok x → xs ≡ map slot_at x.requests
      → ys ≡ marked xs (map byte_answer (replies (array_in m life) cs)) → zs ≡ drop x.run.number ss → ys ++ zs ≡ slots_left r read bs ss
  whole_slots r read ss xs ys zs er ex ey ez =
      ap (λ (l : List Slot). l ++ zs) ey
      ∙ ap (λ (l : List Slot). marked l (map byte_answer (replies (array_in m life) cs)) ++ zs) ex
      ∙ ap (λ (z : Memory). marked (map slot_at x.requests) (map byte_answer (replies (array_in z life) cs)) ++ zs) em
      ∙ ap (λ (z : List (Call Load)). marked (map slot_at x.requests) (map byte_answer (replies (first_array x bs) z)) ++ zs) ec
      ∙ ap (λ (l : List Slot). marked_slots x bs ++ l) ez
      ∙ sym (ap (λ (z : Result Reading Fault). slots_left z read bs ss) er)

  pub whole_bytes : (r : Result Reading Fault) (ys vs zs : List ℕ) → r ≡ Ok x → ◌≡◌ {A = Memory} (record { bytes = ys; counts = vs }) (memory_after m life cs)
      → zs ≡ drop (x.run.settings.lines * 16) bs → ys ++ zs ≡ bytes_left r bs
  whole_bytes r ys vs zs er ey ez =
      ap (λ (z : Memory). z.bytes ++ zs) (ey ∙ lent_memory) ∙ ap (λ (l : List ℕ). (last_memory x bs).bytes ++ l) ez
      ∙ sym (ap (λ (z : Result Reading Fault). bytes_left z bs) er)

  pub whole_counts : (r : Result Reading Fault) (ys vs zs ns : List ℕ) → r ≡ Ok x → ◌≡◌ {A = Memory} (record { bytes = ys; counts = vs }) (memory_after m life cs)
      → zs ≡ drop x.run.settings.lines ns → vs ++ zs ≡ counts_left r bs ns
  whole_counts r ys vs zs ns er ey ez =
      ap (λ (z : Memory). z.counts ++ zs) (ey ∙ lent_memory) ∙ ap (λ (l : List ℕ). (last_memory x bs).counts ++ l) ez
      ∙ sym (ap (λ (z : Result Reading Fault). counts_left z bs ns) er)

  pub whole_array : (r : Result Reading Fault) → r ≡ Ok x → array_in (memory_after m life cs) life ≡ after (array_in m life) cs → ArrayHeld r bs
  whole_array r er h =
      let e : array_in (last_memory x bs) life ≡ last_array x bs = ap (λ (z : Memory). array_in z life) (sym lent_memory) ∙ h ∙ lent_array in
      subst (λ z. ArrayHeld z bs) (sym er) e

pub first_is : (x : Reading) (bs cs : List ℕ) → x.run.settings.lines ≤ length cs
    → ◌≡◌ {A = Memory} (record { bytes = take (x.run.settings.lines * 16 - 0) bs; counts = replicate (length (take (x.run.settings.lines - 0) cs)) 0 }) (first_memory x bs)
first_is x bs cs le =
    let n : ℕ = x.run.settings.lines in
    let p : length (take (n - 0) cs) ≡ n = ap (λ (k : ℕ). length (take k cs)) (sub-zero n) ∙ length-take-le n cs le in
    let q : take (n * 16 - 0) bs ≡ take (n * 16) bs = ap (λ (k : ℕ). take k bs) (sub-zero (n * 16)) in
    cc
