-- Calls that are put to a medium in turn, with all that each write leaves; and what a layer's write leaves. Assumes nothing.
use Rattle.std.specs.Prelude.{◌≡◌, ℕ, List, [], ◌∷◌, Ok, Err, Result}
use Rattle.line.specs.Answers.{Answer}
use Rattle.line.specs.declared.answer.Accepted.TheVariants.{Toll}
use Rattle.line.specs.declared.denial.Denial.{Denial}
use Rattle.medium.specs.Array.{Wrote, reply}
use Rattle.medium.specs.Law.{reply_of}
use Rattle.medium.specs.Meaning.{means}
use Rattle.medium.specs.Pile.{Layer, requests, Served}
use Rattle.medium.specs.declared.call.Call.{Call}
use Rattle.medium.specs.declared.call.Call.TheVariants.{Read, Write}
use Rattle.medium.specs.declared.medium.Medium.{Ghosts}

-- a write of v to line i of the medium m, answered r, that leaves n: all that the trait says of it
pub record WriteStep {M A : Type 0} (g : Ghosts M A) (m : M) (i : ℕ) (v : A) (r : Result ℕ Denial) (n : M) : Type 0 where
  pub answer : Wrote (means g m) (g.wear m) i v (means g n) (g.wear n) r
  pub below : Served (g.pile m) (means g m) (g.wear m) (Write i v ∷ []) (g.pile n) (g.wear n)
  pub effect : g.effect m i v r n

-- the calls, put to the medium m in turn, lead to n: a read leaves it as it was, a write leaves what the trait says
unfoldable pub Chained : {M A : Type 0} → Ghosts M A → M → List (Call A) → M → Type 0
Chained g m [] n = n ≡ m
Chained g m (Read i ∷ cs) n = Chained g m cs n
Chained {M} g m (Write i v ∷ cs) n = (k : M) × ((r : Result ℕ Denial) × WriteStep g m i v r k) × Chained g k cs n

-- what a write answered, as an answer to a call
abbrev pub write_answer : {A : Type 0} → Result ℕ Denial → Answer A
write_answer (Ok t) = Ok (Toll t)
write_answer (Err d) = Err d

-- the calls, put to the medium m one after the other, each answered as the trait says, lead to n
unfoldable pub InTurn : {M A : Type 0} → Ghosts M A → M → List (Call A) → List (Answer A) → M → Type 0
InTurn g m [] [] n = n ≡ m
InTurn g m [] (r ∷ rs) n = ⊥
InTurn g m (c ∷ cs) [] n = ⊥
InTurn g m (Read i ∷ cs) (r ∷ rs) n = (reply_of r ≡ reply (means g m) (Read i)) × InTurn g m cs rs n
InTurn {M} g m (Write i v ∷ cs) (r ∷ rs) n =
    (k : M) × (((t : Result ℕ Denial) × ((r ≡ write_answer t) × WriteStep g m i v t k)) × InTurn g k cs rs n)

-- a write of v to line i of a layer x of the kind s with lines ls, over b, that leaves y over b': where it is accepted, what the layer
-- asks below was put to b in turn and led to b'; at a denial the layer is as it was, with all that it holds
abbrev pub LayerEffect : {L M A : Type 0} → Ghosts M A → L → L → M → M → Layer → List A → ℕ → A → Result ℕ Denial → Type 0
LayerEffect g x y b b' s ls i v (Ok t) = Chained g b (requests s ls (Write i v)) b'
LayerEffect g x y b b' s ls i v (Err d) = y ≡ x
