-- A walk over the requests. While no request has a fault, the faults of those that are left are those of all. Each turn is one
-- unfolding of what is left.
use Rattle.std.proofs.Common.{◌≡◌, ℕ, zero, suc, ◌+◌, ◌<◌, List, [], ◌∷◌, ◌++◌, map, length, get_or, take, drop, set, Some, None, Option, sym, refl, ap, ◌∙◌, arith}
use Rattle.std.proofs.lemmas.List.{append_assoc, drop_more, length-map, length-take-le, map_more, set_at}
use Rattle.runfile.specs.declared.fault.Fault.{Fault}
use Rattle.runfile.specs.declared.slot.Slot.{Slot}
use Rattle.runfile.specs.Asks.{Placed}
use Rattle.runfile.specs.Faults.{or_then}
use Rattle.reader.specs.Reading.{request_fault, requests_fault, requests_from, size_at}
use Rattle.runfile.specs.Slots.{slot_at}

-- one request without a fault; g and e are what the walker holds of the file f and of the end
pub walk_more : (f g : List ℕ) (at to e end k m : ℕ) → k ≡ suc m → g ≡ f → e ≡ end → request_fault g at e ≡ None → to ≡ at + size_at g at
    → requests_fault f to end m ≡ requests_fault f at end k
walk_more f g at to e end k m ek eg ee h et =
    let h' : request_fault f at end ≡ None = simp (eg, ee) at h in
    let t' : to ≡ at + size_at f at = simp eg at et in
    ap (λ (a : ℕ). requests_fault f a end m) t'
    ∙ sym (ap (λ (o : Option Fault). or_then o (requests_fault f (at + size_at f at) end m)) h')
    ∙ sym (ap (λ (n : ℕ). requests_fault f at end n) ek)

-- one with a fault
pub walk_broke : (f g : List ℕ) (at e end k m : ℕ) (x : Fault) → k ≡ suc m → g ≡ f → e ≡ end → request_fault g at e ≡ Some x
    → requests_fault f at end k ≡ Some x
walk_broke f g at e end k m x ek eg ee h =
    let h' : request_fault f at end ≡ Some x = simp (eg, ee) at h in
    ap (λ (n : ℕ). requests_fault f at end n) ek ∙ ap (λ (o : Option Fault). or_then o (requests_fault f (at + size_at f at) end m)) h'

pub length_requests_from : (f : List ℕ) (at k : ℕ) → length (requests_from f at k) ≡ k
length_requests_from f at zero = refl
length_requests_from f at (suc k) = ap suc (length_requests_from f (at + size_at f at) k)

-- the first i slots are filled; the slots were xs and are ys
abbrev pub Filled : List Placed → ℕ → List Slot → List Slot → Type 0
Filled all i xs ys = ys ≡ map slot_at (take i all) ++ drop i xs

pub filled_more : (all : List Placed) (i : ℕ) (xs ys : List Slot) (s : Slot) (p : Placed) → i < length all → i < length xs → s ≡ slot_at p
    → p ≡ get_or all i p → Filled all i xs ys → Filled all (i + 1) xs (set ys i s)
filled_more all i xs ys s p la lx es ep h =
    let done : List Slot = map slot_at (take i all) in
    let n : length done ≡ i = length-map (take i all) slot_at ∙ length-take-le i all (omega arith) in
    let e : s ≡ slot_at (get_or all i p) = es ∙ ap slot_at ep in
    ap (λ (l : List Slot). set l i s) (h ∙ ap (λ (l : List Slot). done ++ l) (drop_more xs i s lx))
    ∙ set_at done (get_or xs i s) (drop (i + 1) xs) s i n
    ∙ ap (λ (z : Slot). done ++ (z ∷ drop (i + 1) xs)) e
    ∙ sym (append_assoc done (slot_at (get_or all i p) ∷ []) (drop (i + 1) xs))
    ∙ sym (ap (λ (l : List Slot). l ++ drop (i + 1) xs) (map_more slot_at all i p la))
