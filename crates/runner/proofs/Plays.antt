-- Requests carried out in turn: each is one call more, and one slot more is marked, by induction over the slots.
use Rattle.std.proofs.Common.{◌≡◌, ℕ, zero, suc, ◌+◌, ◌<◌, List, [], ◌∷◌, ◌++◌, length, get_or, take, drop, set, sym, refl, ap, ◌∙◌, subst, arith, length-append}
use Rattle.std.proofs.lemmas.List.{append-nil, take_more, take_all, drop_all}
use Rattle.line.specs.Answers.{Answer}
use Rattle.line.specs.declared.load.Load.{Load}
use Rattle.medium.specs.Chain.{InTurn}
use Rattle.medium.specs.declared.call.Call.{Call}
use Rattle.medium.specs.declared.medium.Medium.{Ghosts}
use Rattle.medium.proofs.Chains.{turn_none, turn_more}
use Rattle.runfile.specs.declared.slot.Slot.{Slot}
use Rattle.runfile.specs.Asks.{Placed}
use Rattle.runner.specs.Playing.{call_of, calls_of, answered, marked, Played}

calls_append : (ps qs : List Placed) → calls_of (ps ++ qs) ≡ calls_of ps ++ calls_of qs
calls_append [] qs = refl
calls_append (p ∷ ps) qs = ap (λ (l : List (Call Load)). call_of p.ask ∷ l) (calls_append ps qs)

marked_more : (xs : List Slot) (rs : List (Answer Load)) (i : ℕ) (d : Slot) (r : Answer Load) → i < length xs → length rs ≡ i
    → set (marked (take i xs) rs ++ drop i xs) i (answered (get_or (marked (take i xs) rs ++ drop i xs) i d) r) ≡ marked (take (suc i) xs) (rs ++ r ∷ []) ++ drop (suc i) xs
marked_more [] rs i d r h e = absurd (omega arith)
marked_more (x ∷ xs) [] zero d r h e = refl
marked_more (x ∷ xs) [] (suc i) d r h e = absurd (omega arith)
marked_more (x ∷ xs) (q ∷ rs) zero d r h e = absurd (omega arith)
marked_more (x ∷ xs) (q ∷ rs) (suc i) d r h e = ap (λ (l : List Slot). answered x q ∷ l) (marked_more xs rs i d r (omega arith) (omega arith))

-- after i of the requests, the slots were xs and are ys
pub record Carried {M : Type 0} (g : Ghosts M Load) (all : List Placed) (m₀ m : M) (i : ℕ) (xs ys : List Slot) : Type 0 where
  pub answers : List (Answer Load)
  pub number : length answers ≡ i
  pub slots : ys ≡ marked (take i xs) answers ++ drop i xs
  pub turn : InTurn g m₀ (calls_of (take i all)) answers m

module _ {M : Type 0} (g : Ghosts M Load) (all : List Placed) (m₀ : M) (xs : List Slot) where
  pub carried_none : Carried g all m₀ m₀ 0 xs xs
  carried_none = record { answers = []; number = refl; slots = refl; turn = turn_none g m₀ }

  pub carried_more : (m m' : M) (i : ℕ) (ys : List Slot) (p : Placed) (d : Slot) (r : Answer Load) → i < length all → i < length xs → p ≡ get_or all i p
      → InTurn g m (call_of p.ask ∷ []) (r ∷ []) m' → Carried g all m₀ m i xs ys → Carried g all m₀ m' (i + 1) xs (set ys i (answered (get_or ys i d) r))
  carried_more m m' i ys p d r ha hx e s c =
      let one : i + 1 ≡ suc i = omega arith in
      let more : calls_of (take (i + 1) all) ≡ calls_of (take i all) ++ call_of p.ask ∷ [] =
      ap calls_of (take_more all i p ha ∙ ap (λ (x : Placed). take i all ++ x ∷ []) (sym e)) ∙ calls_append (take i all) (p ∷ []) in
      let n = c.number in
      record {
        answers = c.answers ++ r ∷ [];
        number = simp length-append (omega arith);
        slots =
            ap (λ (l : List Slot). set l i (answered (get_or l i d) r)) c.slots ∙ marked_more xs c.answers i d r hx c.number
            ∙ ap (λ (k : ℕ). marked (take k xs) (c.answers ++ r ∷ []) ++ drop k xs) (sym one);
        turn = subst (λ (cs : List (Call Load)). InTurn g m₀ cs (c.answers ++ r ∷ []) m') (sym more) (turn_more g m₀ m m' (calls_of (take i all)) _ c.answers (r ∷ []) c.turn s);
      }

  pub carried_all : (m : M) (i : ℕ) (ys : List Slot) → i ≡ length xs → i ≡ length all → Carried g all m₀ m i xs ys → Played g m₀ (calls_of all) xs ys m
  carried_all m i ys ex ea c =
      let whole : marked (take i xs) c.answers ++ drop i xs ≡ marked xs c.answers =
      ap (λ (l : List Slot). marked l c.answers ++ drop i xs) (take_all i xs (omega arith))
      ∙ ap (λ (l : List Slot). marked xs c.answers ++ l) (drop_all i xs (omega arith))
      ∙ append-nil (marked xs c.answers) in
      (c.answers, (c.slots ∙ whole, subst (λ (l : List Placed). InTurn g m₀ (calls_of l) c.answers m) (take_all i all (omega arith)) c.turn))
