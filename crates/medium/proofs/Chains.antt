-- Calls that are put to a medium in turn. A chain after a chain is a chain, and the array that the medium means runs along: by induction
-- over the calls. A chain of calls to a layer is one of what it asks to what lies below: each accepted write has such a chain by the
-- layer's effect, and a read or a denied write alters nothing.
use Rattle.std.proofs.Common.{◌≡◌, ℕ, ◌+◌, ◌<◌, List, [], ◌∷◌, ◌++◌, length, get_or, take, set, Some, None, Ok, Err, Option, Result, sym, refl, ap, ◌∙◌, subst}
use Rattle.std.proofs.lemmas.List.{take_more, take_more_set}
use Rattle.line.specs.Answers.{Answer}
use Rattle.line.specs.declared.denial.Denial.{Denial}
use Rattle.medium.specs.Array.{Array, denied_by, unless_denied, next, after, reply}
use Rattle.medium.specs.Chain.{WriteStep, Chained, write_answer, InTurn, LayerEffect}
use Rattle.medium.specs.Law.{reply_of}
use Rattle.medium.specs.Meaning.{means}
use Rattle.medium.specs.Pile.{Layer, place, requests, asked_at, layer_at, layer_after, asks, Pile, over, Served}
use Rattle.medium.specs.declared.call.Call.{Call}
use Rattle.medium.specs.declared.call.Call.TheVariants.{Read, Write}
use Rattle.medium.specs.declared.medium.Medium.{Ghosts}
use Rattle.medium.proofs.Arrays.{next_read}

module _ {M A : Type 0} (g : Ghosts M A) where
  pub chained_none : (m : M) → Chained g m [] m
  unfolding Chained
  chained_none m = refl

  pub chained_read : (m n : M) (i : ℕ) (cs : List (Call A)) → Chained g m cs n → Chained g m (Read i ∷ cs) n
  unfolding Chained
  chained_read m n i cs h = h

  pub chained_write : (m k n : M) (i : ℕ) (v : A) (r : Result ℕ Denial) (cs : List (Call A)) → WriteStep g m i v r k → Chained g k cs n → Chained g m (Write i v ∷ cs) n
  unfolding Chained
  chained_write m k n i v r cs s h = (k, (r, s), h)

  -- one write, to a line that is known by an equation
  pub chained_one : (m n : M) (i j : ℕ) (v : A) (r : Result ℕ Denial) → i ≡ j → WriteStep g m i v r n → Chained g m (Write j v ∷ []) n
  chained_one m n i j v r e s = subst (λ k. Chained g m (Write k v ∷ []) n) e (chained_write m n n i v r [] s (chained_none n))

  pub chained_append : (m k n : M) (cs ds : List (Call A)) → Chained g m cs k → Chained g k ds n → Chained g m (cs ++ ds) n
  unfolding Chained
  chained_append m k n [] ds h j = subst (λ x. Chained g x ds n) h j
  chained_append m k n (Read i ∷ cs) ds h j = chained_append m k n cs ds h j
  chained_append m k n (Write i v ∷ cs) ds h j = (h.0, h.1, chained_append h.0 k n cs ds h.2 j)

  pub chained_array : (m n : M) (cs : List (Call A)) → Chained g m cs n → means g n ≡ after (means g m) cs
  unfolding Chained after
  chained_array m n [] h = ap (means g) h
  chained_array m n (Read i ∷ cs) h = chained_array m n cs h ∙ ap (λ (a : Array A). after a cs) (sym (next_read (means g m) i))
  chained_array m n (Write i v ∷ cs) h =
      chained_array h.0 n cs h.2 ∙ ap (λ (a : Array A). after a cs) h.1.1.answer.array

-- ---- calls with their answers
module _ {M A : Type 0} (g : Ghosts M A) where
  pub turn_none : (m : M) → InTurn g m [] [] m
  unfolding InTurn
  turn_none m = refl

  pub turn_read : (m : M) (c : Call A) (i : ℕ) (r : Answer A) → c ≡ Read i → reply_of r ≡ reply (means g m) (Read i) → InTurn g m (c ∷ []) (r ∷ []) m
  unfolding InTurn
  turn_read m c i r e h = subst (λ x. InTurn g m (x ∷ []) (r ∷ []) m) (sym e) (h, refl)

  pub turn_write : (m n : M) (c : Call A) (i : ℕ) (v : A) (t : Result ℕ Denial) → c ≡ Write i v → WriteStep g m i v t n → InTurn g m (c ∷ []) (write_answer t ∷ []) n
  unfolding InTurn
  turn_write m n c i v t e s = subst (λ x. InTurn g m (x ∷ []) (write_answer t ∷ []) n) (sym e) (n, ((t, (refl, s)), refl))

  pub turn_more : (m k n : M) (cs ds : List (Call A)) (rs ss : List (Answer A)) → InTurn g m cs rs k → InTurn g k ds ss n → InTurn g m (cs ++ ds) (rs ++ ss) n
  unfolding InTurn
  turn_more m k n [] ds [] ss h j = subst (λ x. InTurn g x ds ss n) h j
  turn_more m k n [] ds (_ ∷ _) ss h j = elim h [ ]
  turn_more m k n (Read i ∷ cs) ds [] ss h j = elim h [ ]
  turn_more m k n (Write i v ∷ cs) ds [] ss h j = elim h [ ]
  turn_more m k n (Read i ∷ cs) ds (r ∷ rs) ss h j = (h.0, turn_more m k n cs ds rs ss h.1 j)
  turn_more m k n (Write i v ∷ cs) ds (r ∷ rs) ss h j = (h.0, (h.1.0, turn_more h.0 k n cs ds rs ss h.1.1 j))

  -- one call more of a list
  pub turn_push : (m k n : M) (cs : List (Call A)) (rs : List (Answer A)) (i : ℕ) (q : Call A) (r : Answer A) → i < length cs → i < length rs → q ≡ get_or cs i q
      → InTurn g m (take i cs) (take i rs) k → InTurn g k (q ∷ []) (r ∷ []) n → InTurn g m (take (i + 1) cs) (take (i + 1) (set rs i r)) n
  turn_push m k n cs rs i q r hc hr e h j =
      let ec : take (i + 1) cs ≡ take i cs ++ q ∷ [] = take_more cs i q hc ∙ ap (λ x. take i cs ++ x ∷ []) (sym e) in
      subst (λ x. InTurn g m x (take (i + 1) (set rs i r)) n) (sym ec)
      (subst (λ x. InTurn g m (take i cs ++ q ∷ []) x n) (sym (take_more_set rs i r hr)) (turn_more m k n (take i cs) (q ∷ []) (take i rs) (r ∷ []) h j))

-- ---- a medium that holds another and does what it does, as one that is lent
module _ {H M A : Type 0} (G : Ghosts H A) (g : Ghosts M A) (held : H → M)
    (same_step : (x y : H) (i : ℕ) (v : A) (r : Result ℕ Denial) → WriteStep G x i v r y → WriteStep g (held x) i v r (held y)) where
  pub chained_held : (x y : H) (cs : List (Call A)) → Chained G x cs y → Chained g (held x) cs (held y)
  unfolding Chained
  chained_held x y [] h = ap held h
  chained_held x y (Read i ∷ cs) h = chained_held x y cs h
  chained_held x y (Write i v ∷ cs) h = (held h.0, (h.1.0, same_step x h.0 i v h.1.0 h.1.1), chained_held h.0 y cs h.2)

  pub effect_held : {L : Type 0} (x y : L) (b b' : H) (s : Layer) (ls : List A) (i : ℕ) (v : A) (r : Result ℕ Denial)
      → LayerEffect G x y b b' s ls i v r → LayerEffect g x y (held b) (held b') s ls i v r
  effect_held x y b b' s ls i v (Ok t) h = chained_held b b' _ h
  effect_held x y b b' s ls i v (Err d) h = h

-- ---- a layer, by what lies below it and its kind
module _ {L M A : Type 0} (G : Ghosts L A) (g : Ghosts M A) (below : L → M) (layer : L → Layer)
    (pile_is : (x : L) → G.pile x ≡ over (layer x) (means g (below x)) (g.wear (below x)) (g.pile (below x)))
    (effect_is : (x y : L) (i : ℕ) (v : A) (r : Result ℕ Denial) → G.effect x i v r y → LayerEffect g x y (below x) (below y) (layer x) (G.lines x) i v r) where
  pub layer_next : (x y : L) (i : ℕ) (v : A) (r : Result ℕ Denial) → WriteStep G x i v r y → layer y ≡ layer_at (layer x) (means G x) (Write i v)
  unfolding Served layer_after
  layer_next x y i v r s =
      let P : Pile A → Type 0 = λ p. Served p (means G x) (G.wear x) (Write i v ∷ []) (G.pile y) (G.wear y) in
      let Q : Pile A → Type 0 = λ q. Served (over (layer x) (means g (below x)) (g.wear (below x)) (g.pile (below x))) (means G x) (G.wear x) (Write i v ∷ []) q (G.wear y) in
      let h = subst Q (pile_is y) (subst P (pile_is x) s.below) in
      h.0

  -- one write, accepted or denied
  asked_by : (x y : L) (i : ℕ) (v : A) (r : Result ℕ Denial) → WriteStep G x i v r y → Chained g (below x) (asked_at (layer x) (means G x) (Write i v)) (below y)
  unfolding asked_at Chained
  asked_by x y i v (Ok t) s =
      let P : Option Denial → Type 0 = λ o. Chained g (below x) (unless_denied o (requests (layer x) (G.lines x) (Write i v)) []) (below y) in
      subst P (sym s.answer.answer.0) (effect_is x y i v (Ok t) s.effect)
  asked_by x y i v (Err d) s =
      let P : Option Denial → Type 0 = λ o. Chained g (below x) (unless_denied o (requests (layer x) (G.lines x) (Write i v)) []) (below y) in
      subst P (sym s.answer.answer.0) (ap below (effect_is x y i v (Err d) s.effect))

  asked_read : (x : L) (i : ℕ) → Chained g (below x) (asked_at (layer x) (means G x) (Read i)) (below x)
  unfolding asked_at Chained
  asked_read x i =
      elim (denied_by (means G x) (Read i)) as (λ o. Chained g (below x) (unless_denied o (Read (place (layer x) i) ∷ []) []) (below x))
      [ None ↦ refl | Some d ↦ refl ]

  layer_read : (s : Layer) (a : Array A) (i : ℕ) → layer_at s a (Read i) ≡ s
  unfolding layer_at
  layer_read s a i = elim (denied_by a (Read i)) as (λ o. unless_denied o s s ≡ s) [ None ↦ refl | Some d ↦ refl ]

  pub chained_below : (x y : L) (cs : List (Call A)) → Chained G x cs y → Chained g (below x) (asks (layer x) (means G x) cs) (below y)
  unfolding Chained asks
  chained_below x y [] h = ap below h
  chained_below x y (Read i ∷ cs) h =
      let P : Layer → Type 0 = λ s. Chained g (below x) (asks s (next (means G x) (Read i)) cs) (below y) in
      let Q : Array A → Type 0 = λ a. Chained g (below x) (asks (layer x) a cs) (below y) in
      chained_append g (below x) (below x) (below y) (asked_at (layer x) (means G x) (Read i)) _ (asked_read x i)
      (subst P (sym (layer_read (layer x) (means G x) i)) (subst Q (sym (next_read (means G x) i)) (chained_below x y cs h)))
  chained_below x y (Write i v ∷ cs) h =
      let k : L = h.0 in
      let s = h.1.1 in
      let P : Layer → Type 0 = λ l. Chained g (below k) (asks l (next (means G x) (Write i v)) cs) (below y) in
      let Q : Array A → Type 0 = λ a. Chained g (below k) (asks (layer k) a cs) (below y) in
      chained_append g (below x) (below k) (below y) (asked_at (layer x) (means G x) (Write i v)) _ (asked_by x k i v h.1.0 s)
      (subst P (layer_next x k i v h.1.0 s) (subst Q s.answer.array (chained_below k y cs h.2)))
