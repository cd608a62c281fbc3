-- The first piece ends at the first stop, and is all of the bytes where there is none.
use Rattle.std.proofs.Common.{◌≡◌, ℕ, ◌+◌, ◌<◌, ◌≤◌, eqb, List, [], ◌∷◌, length, take, drop, Option, Some, None, sym, refl, ap, ◌∙◌, subst, Bool, true, arith, rules}
use Rattle.std.proofs.lemmas.Bool.Decides.{nat_tests}
use Rattle.std.proofs.lemmas.List.Elements.{All-from_get_or}
use Rattle.std.proofs.lemmas.List.Quantifiers.{position-Some}
use Rattle.std.proofs.lemmas.List.Splits.{slice_split_first, slice_split_none}
use Rattle.std.proofs.lemmas.List.Sums.{fails_before_first, position_or_len_is}
use Rattle.std.specs.Borrow.{Bor}
use Rattle.std.specs.Fn.{CalledAt}
use denote.Param.Members.{Mut}
use Rattle.std.specs.Iterator.{YieldsFirstBy, YieldsFirstRef, Yields, FindsItem, MakesProgress, item_count}
use Rattle.std.specs.List.{FoldsTo, onto_first, position, position_or_len, slice_split}
use Rattle.std.specs.Prelude.{cond, false}
use Rattle.compose.specs.declared.text.Pieces.{Pieces}
use Rattle.compose.specs.Pieces.{onto, pieces, pieces_of, some, words_of}

onto_is : (b : ℕ) (ps : List (List ℕ)) → onto b ps ≡ onto_first b ps
onto_is b [] = refl
onto_is b (p ∷ ps) = refl

-- the pieces are the parts that std's `split` gives
pieces_are : (stop : ℕ) (bs : List ℕ) → pieces stop bs ≡ slice_split (λ b. eqb b stop) bs
pieces_are stop [] = refl
pieces_are stop (b ∷ bs) =
    ap (λ (ps : List (List ℕ)). cond (eqb b stop) ([] ∷ ps) (onto b ps)) (pieces_are stop bs)
    ∙ ap (cond (eqb b stop) ([] ∷ slice_split (λ b. eqb b stop) bs)) (onto_is b (slice_split (λ b. eqb b stop) bs))

pub pieces_first : (stop : ℕ) (bs : List ℕ) (i : ℕ) → position (λ b. eqb b stop) bs ≡ Some i → pieces stop bs ≡ take i bs ∷ pieces stop (drop (i + 1) bs)
pieces_first stop bs i h =
    let at = position-Some (λ b. eqb b stop) bs i 0 h in
    let here : position_or_len (λ b. eqb b stop) bs ≡ i = position_or_len_is (λ b. eqb b stop) bs i 0 (omega (arith, at.0)) at.2 (λ _. at.1) in
    pieces_are stop bs ∙ slice_split_first (λ b. eqb b stop) bs 0 (omega (arith, at.0))
    ∙ ap (λ (n : ℕ). take n bs ∷ slice_split (λ b. eqb b stop) (drop (n + 1) bs)) here
    ∙ ap (λ (ps : List (List ℕ)). take i bs ∷ ps) (sym (pieces_are stop (drop (i + 1) bs)))

pub pieces_whole : (stop : ℕ) (bs : List ℕ) → position (λ b. eqb b stop) bs ≡ None → pieces stop bs ≡ bs ∷ []
pieces_whole stop bs h =
    let none : length bs ≤ position_or_len (λ b. eqb b stop) bs = grind (arith, nat_tests, h) in
    pieces_are stop bs
    ∙ slice_split_none (λ b. eqb b stop) bs
    (All-from_get_or (λ (b : ℕ). eqb b stop ≡ false) bs 0 (λ k lt. fails_before_first (λ b. eqb b stop) bs k 0 (omega arith)))

-- an iterator that gives the first of what is left has less left
pub yields_progress : {S A B : Type 0} (can : S → Type 0) (view : A → B) (rest : S → List B) (s : S) (r : Option A) (t : S) → ((u : S) → can u)
    → YieldsFirstBy view rest s r t → MakesProgress can (item_count rest) s r t
yields_progress can view rest s (Some x) t c h =
    let l : length (rest s) ≡ length (rest t) + 1 = ap length h ∙ omega arith in
    record { on = λ _. (c t, search rules, omega arith); keeps = c t; rests = λ _. tt }
yields_progress can view rest s None t c h = record { on = λ _. tt; keeps = tt; rests = λ _. search rules }

some_none : (w : List ℕ) (ps : List (List ℕ)) → length w ≡ 0 → some (w ∷ ps) ≡ some ps
some_none [] ps h = refl
some_none (b ∷ w) ps h = absurd (omega arith)

some_more : (w : List ℕ) (ps : List (List ℕ)) → 0 < length w → some (w ∷ ps) ≡ w ∷ some ps
some_more [] ps h = absurd (omega arith)
some_more (b ∷ w) ps h = refl

-- where only pieces without bytes are passed over, the words stay as they are
pub words_passed : {F : Type 0} (g : Mut F (Bor (Bor (List ℕ)) × Unit {0}) Bool) (f f' : F) (s t : Pieces) (ps : List (Bor (List ℕ)))
    → ((p : Bor (List ℕ)) (q : F) → CalledAt g f p false q → (q ≡ f) × (length p.now ≡ 0))
    → Yields (YieldsFirstRef pieces_of) s ps t → FoldsTo (λ q p r. CalledAt g q p false r) f ps f' → (some (pieces_of s) ≡ some (pieces_of t)) × (f ≡ f')
words_passed g f f' s t [] h y z = (ap (λ (u : Pieces). some (pieces_of u)) y, z)
words_passed g f f' s t (p ∷ ps) h y z =
    let e = h p z.0 z.1 in
    let rest = words_passed g f f' y.0 t ps h y.2 (subst (λ (q : _). FoldsTo (λ q p r. CalledAt g q p false r) q ps f') e.0 z.2) in
    (ap some y.1 ∙ some_none p.now (pieces_of y.0) e.1 ∙ rest.0, rest.1)

-- the first piece with bytes is the first word
pub word_found : {F : Type 0} (g : Mut F (Bor (Bor (List ℕ)) × Unit {0}) Bool) (f : F) (s u : Pieces) (r : Option (Bor (List ℕ)))
    → ((p : Bor (List ℕ)) (q : F) → CalledAt g f p false q → (q ≡ f) × (length p.now ≡ 0)) → ((p : Bor (List ℕ)) (q : F) → CalledAt g f p true q → 0 < length p.now)
    → FindsItem (YieldsFirstRef pieces_of) g s f r u → YieldsFirstRef words_of (record { pieces = s }) r (record { pieces = u })
word_found g f s u None empty full x =
    let p = words_passed g f x.1 s x.2.0 x.0 empty x.2.1 x.3 in
    (p.0 ∙ ap some x.2.2.0, ap some x.2.2.1)
word_found g f s u (Some w) empty full x =
    let p = words_passed g f x.1 s x.2.0 x.0 empty x.2.1 x.3 in
    let some_bytes : 0 < length w.now = full w x.4.0 (subst (λ (q : _). CalledAt g q w true x.4.0) (sym p.1) x.4.1) in
    p.0 ∙ ap some x.2.2 ∙ some_more w.now (pieces_of u) some_bytes
