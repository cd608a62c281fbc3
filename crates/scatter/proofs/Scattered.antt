-- The scatter layer. Below its span a shuffle takes each number to another and back, so a write at the place of one line alters no other.
use Rattle.std.proofs.Common.{◌≡◌, ℕ, ◌+◌, ◌-◌, ◌<◌, ◌≤◌, ◌≢◌, List, [], ◌∷◌, length, set, None, Ok, sym, refl, ap, ◌∙◌, subst, ⊎_elim, arith}
use Rattle.std.specs.Prelude.{nat_le, Result, MatchResult, Err}
use Rattle.line.specs.declared.denial.Denial.{Denial}
use Rattle.std.proofs.lemmas.Bool.{cond-true, cond-false, cases_lt, le-leb, lt-leb}
use Rattle.std.proofs.lemmas.Bool.Decides.{nat_tests}
use Rattle.std.proofs.lemmas.List.{length-set, get_or-set_same, get_or-set_other}
use Rattle.shuffle.specs.Permutations.{Undoes}
use Rattle.medium.specs.Array.{Array, denied_by, accepted, fetched, Wrote}
use Rattle.medium.specs.Pile.{Pile, over, scatter, Served, paid_life}
use Rattle.medium.specs.declared.call.Call.TheVariants.{Read, Write}
use Rattle.medium.proofs.Arrays.{accepts_read, accepts_write, next_accepted, wrote_accepted}
use Rattle.medium.proofs.Layers.{placed_in, placed_at, placed_same, fetched_same, paid_below, paid_yes, Asked, asked_read, asked_write, layer_accepted}
use Rattle.medium.specs.Law.{left, MadeOver}
use Rattle.medium.proofs.Fittings.{unfit_means}
use Rattle.scatter.specs.Scatters.{scatter_size, scatter_lines, scatter_survey, scatter_place}

-- what the answer on a place says
pub placed : (n : ℕ) (f : ℕ → ℕ) (i p : ℕ) → Ok p ≡ scatter_place n f i → (i < n) × (p ≡ f i)
placed n f i p e = grind (arith, nat_tests)

pub not_placed : (n : ℕ) (f : ℕ → ℕ) (i : ℕ) (d : Denial) → Err d ≡ scatter_place n f i → n ≤ i
not_placed n f i d e = grind (arith, nat_tests)

-- the size of a scatter that was fit
size_fit : (life span : ℕ) → 1 ≤ life → scatter_size life span ≡ span
size_fit life span h = cond-true (nat_le 1 life) span 0 (le-leb 1 life h)

-- what is below the size is below the span
size_least : (life span x : ℕ) → x < scatter_size life span → (1 ≤ life) × (x < span)
size_least life span x h = ⊎_elim
    (λ (k : life < 1). let e = cond-false (nat_le 1 life) span 0 (lt-leb 1 life k) in absurd (omega arith))
    (λ (k : 1 ≤ life). let e = size_fit life span k in (k, omega arith))
    (cases_lt life 1)

pub stays_below : (life span : ℕ) (f g : ℕ → ℕ) → Undoes span f g → (x : ℕ) → x < scatter_size life span → f x < scatter_size life span
stays_below life span f g u x h =
    let k = size_least life span x h in
    let l = u.stays x k.1 in
    rw (size_fit life span k.0) l

abbrev array : {A : Type 0} → List A → ℕ → ℕ → Array A
array ls t l = record { lines = ls; taken = t; life = l }

apart : (n : ℕ) (f g : ℕ → ℕ) (undone : (x : ℕ) → x < n → g (f x) ≡ x) (i j : ℕ) → i < n → j < n → j ≢ i → f j ≢ f i
apart n f g undone i j hi hj ne e = ne (sym (undone j hj) ∙ ap g e ∙ undone i hi)

-- what a scatter of that life asks and answers, whose shuffle has a span, a forward f and a back g
module _ (life span : ℕ) (f g : ℕ → ℕ) (undoes : Undoes span f g) where
  stays : (x : ℕ) → x < scatter_size life span → f x < scatter_size life span
  stays = stays_below life span f g undoes

  undone : (x : ℕ) → x < scatter_size life span → g (f x) ≡ x
  undone x h = undoes.undone x (size_least life span x h).1

  module _ {A : Type 0} where
    below_place : (ls : List A) (i : ℕ) → i < length (scatter_lines life span f ls) → f i < length ls
    below_place ls i h = let k = placed_in (scatter_size life span) (scatter_size life span) f stays ls i h in let l = stays i k.0 in let m = k.1 in omega arith

    pub scatter_read : (ls : List A) (i p : ℕ) → i < length (scatter_lines life span f ls) → p ≡ f i → fetched ls p ≡ fetched (scatter_lines life span f ls) i
    scatter_read ls i p h e =
        let k = placed_in (scatter_size life span) (scatter_size life span) f stays ls i h in
        ap (λ x. fetched ls x) e ∙ fetched_same (scatter_lines life span f ls) ls i (f i) h (below_place ls i h) (λ d. placed_at (scatter_size life span) (scatter_size life span) f stays ls i d k.1 k.0)

    pub scatter_served_read : (b : Array A) (u : ℕ) (t : Pile A) (taken lasts i p : ℕ) → i < length (scatter_lines life span f b.lines) → p ≡ f i → Served t b u (Read p ∷ []) t u → Served (over (scatter (scatter_size life span) f) b u t) (array (scatter_lines life span f b.lines) taken lasts) u (Read i ∷ []) (over (scatter (scatter_size life span) f) b u t) u
    scatter_served_read b u t taken lasts i p h e s =
        layer_accepted (scatter (scatter_size life span) f) (scatter (scatter_size life span) f) b b u u t t (array (scatter_lines life span f b.lines) taken lasts) (Read i) (accepts_read _ i h) refl
        (asked_read b u t (f i) (below_place b.lines i h) (subst (λ x. Served t b u (Read x ∷ []) t u) e s))

    pub scatter_served_write : (b b' : Array A) (u u' : ℕ) (t t' : Pile A) (taken lasts i p : ℕ) (v : A) (x : ℕ) → i < length (scatter_lines life span f b.lines) → taken < lasts → p ≡ f i → Wrote b u p v b' u' (Ok x) → Served t b u (Write p v ∷ []) t' u' → Served (over (scatter (scatter_size life span) f) b u t) (array (scatter_lines life span f b.lines) taken lasts) u (Write i v ∷ []) (over (scatter (scatter_size life span) f) b' u' t') u'
    scatter_served_write b b' u u' t t' taken lasts i p v x h k e w s =
        layer_accepted (scatter (scatter_size life span) f) (scatter (scatter_size life span) f) b b' u u' t t' (array (scatter_lines life span f b.lines) taken lasts) (Write i v) (accepts_write _ i v h k) refl
        (subst (λ y. Asked b u t (Write y v ∷ []) b' u' t') e (asked_write b b' u u' t t' p v x w s))

    pub scatter_grants : (b : Array A) (taken i p : ℕ) (v : A) → i < length (scatter_lines life span f b.lines) → taken < paid_life life taken life (taken + (b.life - b.taken)) → p ≡ f i → denied_by b (Write p v) ≡ None
    scatter_grants b taken i p v h k e =
        let l = below_place b.lines i h in
        let m = paid_below life taken life (taken + (b.life - b.taken)) k in
        let m0 = m.0 in
        let m1 = m.1 in
        accepts_write b p v (omega arith) (omega arith)

    pub scatter_wrote : (b b' : Array A) (u u' taken i p : ℕ) (v : A) (x : ℕ) → i < length (scatter_lines life span f b.lines) → taken < paid_life life taken life (taken + (b.life - b.taken)) → p ≡ f i → Wrote b u p v b' u' (Ok x) → Wrote (array (scatter_lines life span f b.lines) taken (paid_life life taken life (taken + (b.life - b.taken)))) u i v (array (scatter_lines life span f b'.lines) (taken + 1) (paid_life life (taken + 1) life (taken + 1 + (b'.life - b'.taken)))) u' (Ok x)
    scatter_wrote b b' u u' taken i p v x h k e w =
        let eb : b' ≡ accepted b (Write p v) = w.array ∙ next_accepted b (Write p v) w.answer.0 in
        let in' = placed_in (scatter_size life span) (scatter_size life span) f stays b.lines i h in
        let i0 = in'.0 in
        let i1 = in'.1 in
        let fi = stays i in'.0 in
        let el : b'.lines ≡ set b.lines (f i) v = ap (λ (y : Array A). y.lines) eb ∙ ap (λ y. set b.lines y v) e in
        let et : b'.taken ≡ b.taken + 1 = ap (λ (y : Array A). y.taken) eb in
        let ef : b'.life ≡ b.life = ap (λ (y : Array A). y.life) eb in
        let m = paid_below life taken life (taken + (b.life - b.taken)) k in
        let m0 = m.0 in
        let m1 = m.1 in
        let lines_are : scatter_lines life span f b'.lines ≡ set (scatter_lines life span f b.lines) i v =
        ap (λ y. scatter_lines life span f y) el
        ∙ placed_same (scatter_size life span) (scatter_size life span) f f stays stays b.lines (set b.lines (f i) v) i v in'.1 (length-set b.lines (f i) v) in'.0
        (λ d. get_or-set_same b.lines (f i) v d (omega arith))
        (λ j d hj ne. get_or-set_other b.lines (f i) (f j) v d (apart (scatter_size life span) f g undone i j in'.0 hj ne)) in
        let life_is : paid_life life (taken + 1) life (taken + 1 + (b'.life - b'.taken)) ≡ paid_life life taken life (taken + (b.life - b.taken)) =
        paid_yes life (taken + 1) life (taken + 1 + (b'.life - b'.taken)) (omega arith) ∙ sym m1 in
        wrote_accepted _ u i v _ u' x h k (ap (λ y. array y (taken + 1) (paid_life life (taken + 1) life (taken + 1 + (b'.life - b'.taken)))) lines_are ∙ ap (λ y. array (set (scatter_lines life span f b.lines) i v) (taken + 1) y) life_is) w.answer.1.0 w.answer.1.1

-- ---- the making
-- a scatter whose survey answered r, and whose life is what is left below or, where r is a no, 0
module _ {A : Type 0} (span : ℕ) (f g : ℕ → ℕ) (undoes : Undoes span f g) (b : Array A) (u : ℕ) (t : Pile A) (life : ℕ) where
  made_by_answer : (r : Result (Unit {0}) Denial) → r ≡ scatter_survey span (length b.lines) (left b) → MatchResult r (λ _. life ≡ left b) (λ _. life ≡ 0)
      → MadeOver r (scatter span f) b u t (over (scatter (scatter_size life span) f) b u t)
      (array (scatter_lines life span f b.lines) 0 (paid_life life 0 life (0 + (b.life - b.taken)))) u
  made_by_answer (Ok x) e l =
      let wide : span ≤ length b.lines = grind (arith, e) in
      let lives : 1 ≤ left b = grind (arith, e) in
      let paid : paid_life life 0 life (0 + (b.life - b.taken)) ≡ left b = paid_yes life 0 life (0 + (b.life - b.taken)) (omega arith) ∙ l in
      rw (size_fit life span (omega arith)) (refl, record { wide = wide; stays = undoes.stays; lines = refl; taken = refl; life = paid; lives = omega arith }, refl)
  made_by_answer (Err d) e l = rw l ((scatter 0 f, (refl, refl)), unfit_means 0 0 (0 + (b.life - b.taken)) f b.lines, refl)

  pub scatter_made : (r : Result (Unit {0}) Denial) → r ≡ scatter_survey span (length b.lines) (left b) → MatchResult r (λ _. life ≡ left b) (λ _. life ≡ 0)
      → MadeOver (scatter_survey span (length b.lines) (left b)) (scatter span f) b u t (over (scatter (scatter_size life span) f) b u t)
      (array (scatter_lines life span f b.lines) 0 (paid_life life 0 life (0 + (b.life - b.taken)))) u
  scatter_made r e l = rw (← e) (made_by_answer r e l)
