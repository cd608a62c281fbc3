-- What a layer shows: its lines are found again at their places, its life is paid for, and what it asked below is what the definitions say.
use Rattle.std.proofs.Common.{◌≡◌, ℕ, zero, suc, ◌<◌, ◌≤◌, cond, ◌≢◌, List, [], ◌∷◌, ◌++◌, map, length, get_or, take, set, Some, None, Ok, Option, sym, refl, ap, ◌∙◌, subst, ⊎_elim, arith}
use Rattle.std.specs.List.{range_with_len, AllByRecursion}
use Rattle.std.proofs.lemmas.Bool.{le-leb, lt-leb, cases_lt, cases_eq}
use Rattle.std.proofs.lemmas.List.{drop_more, length-take, length-drop, length-append, length-set, get_or-set_same, get_or-set_other, same_lists}
use Rattle.std.proofs.lemmas.List.FromFn.{length-map-range_with_len, get_or-map-range_with_len}
use Rattle.std.proofs.ByRecursion.{All-from_get_or}
use Rattle.line.specs.declared.denial.Denial.{Denial}
use Rattle.medium.specs.Array.{Array, unless_denied, denied_by, after, fetched, Wrote}
use Rattle.medium.specs.Pile.{Layer, requests, turned_by, asked_at, layer_at, Undenied, Pile, over, Served, gathered, placed_lines, paid_life}
use Rattle.medium.specs.declared.call.Call.{Call}
use Rattle.medium.specs.declared.call.Call.TheVariants.{Read, Write}
use Rattle.medium.proofs.Arrays.{next_read, accepts_read, after_append, fetched_by}
use Rattle.medium.proofs.Piles.{undenied_append, served_more, served_none, served_one}

-- ---- lines that are gathered
module _ {A : Type 0} (ls : List A) where
  gathered_cons : (p : ℕ) (ps : List ℕ) (d : A) → p < length ls → gathered ls (p ∷ ps) ≡ get_or ls p d ∷ gathered ls ps
  gathered_cons p ps d h = ap (λ x. take 1 x ++ gathered ls ps) (drop_more ls p d h)

  length_gathered : (ps : List ℕ) → AllByRecursion (λ p. p < length ls) ps → length (gathered ls ps) ≡ length ps
  length_gathered [] h = refl
  length_gathered (p ∷ ps) h =
      let k = length_gathered ps h.1 in
      let l = h.0 in
      simp (length-append, length-take, length-drop) (omega arith)

  getD_gathered : (ps : List ℕ) (i : ℕ) (d : A) → AllByRecursion (λ p. p < length ls) ps → i < length ps → get_or (gathered ls ps) i d ≡ get_or ls (get_or ps i 0) d
  getD_gathered [] i d h k = absurd (omega arith)
  getD_gathered (p ∷ ps) zero d h k = ap (λ x. get_or x 0 d) (gathered_cons p ps d h.0)
  getD_gathered (p ∷ ps) (suc i) d h k = ap (λ x. get_or x (suc i) d) (gathered_cons p ps d h.0) ∙ getD_gathered ps i d h.1 (omega arith)

module _ {A : Type 0} (n need : ℕ) (f : ℕ → ℕ) (stays : (i : ℕ) → i < n → f i < need) where
  within : (ls : List A) → need ≤ length ls → AllByRecursion (λ p. p < length ls) (map f (range_with_len 0 n))
  within ls h = All-from_get_or (λ p. p < length ls) (map f (range_with_len 0 n)) 0 (λ i k.
      let l : i < n = subst (λ x. i < x) (length-map-range_with_len f 0 n) k in
      let e = get_or-map-range_with_len f 0 n i i 0 l (omega arith) in
      let m = stays i l in
      omega arith)

  placed_fit : (ls : List A) → need ≤ length ls → placed_lines n need f ls ≡ gathered ls (map f (range_with_len 0 n))
  unfolding placed_lines
  placed_fit ls h = ap (λ b. cond b (gathered ls (map f (range_with_len 0 n))) []) (le-leb need (length ls) h)

  placed_none : (ls : List A) → length ls < need → placed_lines n need f ls ≡ []
  unfolding placed_lines
  placed_none ls h = ap (λ b. cond b (gathered ls (map f (range_with_len 0 n))) []) (lt-leb need (length ls) h)

  pub placed_length : (ls : List A) → need ≤ length ls → length (placed_lines n need f ls) ≡ n
  placed_length ls h = ap length (placed_fit ls h) ∙ length_gathered ls (map f (range_with_len 0 n)) (within ls h) ∙ length-map-range_with_len f 0 n

  pub placed_empty : (ls : List A) → length ls < need → length (placed_lines n need f ls) ≡ 0
  placed_empty ls h = ap length (placed_none ls h)

  -- a line that there is, is one of n, over enough lines below
  pub placed_in : (ls : List A) (i : ℕ) → i < length (placed_lines n need f ls) → (i < n) × (need ≤ length ls)
  placed_in ls i h = ⊎_elim
      (λ k. let e = placed_empty ls k in absurd (omega arith))
      (λ k. let e = placed_length ls k in (omega arith, k))
      (cases_lt (length ls) need)

  pub placed_at : (ls : List A) (i : ℕ) (d : A) → need ≤ length ls → i < n → get_or (placed_lines n need f ls) i d ≡ get_or ls (f i) d
  placed_at ls i d h k =
      ap (λ x. get_or x i d) (placed_fit ls h)
      ∙ getD_gathered ls (map f (range_with_len 0 n)) i d (within ls h) (subst (λ x. i < x) (sym (length-map-range_with_len f 0 n)) k)
      ∙ ap (λ x. get_or ls x d) (get_or-map-range_with_len f 0 n i i 0 k (omega arith))

-- the same lines where each is found again
pub placed_same : {A : Type 0} (n need : ℕ) (f f' : ℕ → ℕ) → ((i : ℕ) → i < n → f i < need) → ((i : ℕ) → i < n → f' i < need) → (ls ls' : List A) (i : ℕ) (v : A) → need ≤ length ls → length ls' ≡ length ls → i < n → ((d : A) → get_or ls' (f' i) d ≡ v) → ((j : ℕ) (d : A) → j < n → j ≢ i → get_or ls' (f' j) d ≡ get_or ls (f j) d) → placed_lines n need f' ls' ≡ set (placed_lines n need f ls) i v
placed_same {A} n need f f' st st' ls ls' i v h el hi at_i others =
    let h' : need ≤ length ls' = omega arith in
    let e = placed_length n need f st ls h in
    let e' = placed_length n need f' st' ls' h' in
    let es = length-set (placed_lines n need f ls) i v in
    same_lists _ _ (omega arith) (λ k d hk.
    let kn : k < n = omega arith in
    placed_at n need f' st' ls' k d h' kn ∙ ⊎_elim
    (λ (eq : k ≡ i). ap (λ x. get_or ls' (f' x) d) eq ∙ at_i d ∙ sym (get_or-set_same (placed_lines n need f ls) i v d (omega arith)) ∙ ap (λ x. get_or (set (placed_lines n need f ls) i v) x d) (sym eq))
    (λ ne. others k d kn ne ∙ sym (placed_at n need f st ls k d h kn) ∙ sym (get_or-set_other (placed_lines n need f ls) i k v d ne))
    (cases_eq k i))

pub fetched_same : {A : Type 0} (xs ys : List A) (i j : ℕ) → i < length xs → j < length ys → ((d : A) → get_or xs i d ≡ get_or ys j d) → fetched ys j ≡ fetched xs i
fetched_same [] ys i j h k e = absurd (omega arith)
fetched_same (x ∷ xs) ys i j h k e = sym (fetched_by ys j (get_or (x ∷ xs) i x) x k (e x)) ∙ fetched_by (x ∷ xs) i _ x h refl

-- ---- a life that is paid_life
pub paid_yes : (life taken cost left : ℕ) → cost ≤ left → paid_life life taken cost left ≡ life
unfolding paid_life
paid_yes life taken cost left h = ap (λ b. cond b life taken) (le-leb cost left h)

pub paid_no : (life taken cost left : ℕ) → left < cost → paid_life life taken cost left ≡ taken
unfolding paid_life
paid_no life taken cost left h = ap (λ b. cond b life taken) (lt-leb cost left h)

pub paid_least : (life taken cost left : ℕ) → taken ≤ life → taken ≤ paid_life life taken cost left
paid_least life taken cost left h = ⊎_elim
    (λ k. let e = paid_no life taken cost left k in omega arith)
    (λ k. let e = paid_yes life taken cost left k in omega arith)
    (cases_lt left cost)

pub paid_below : (life taken cost left : ℕ) → taken < paid_life life taken cost left → (cost ≤ left) × (paid_life life taken cost left ≡ life)
paid_below life taken cost left h = ⊎_elim
    (λ k. let e = paid_no life taken cost left k in absurd (omega arith))
    (λ k. (k, paid_yes life taken cost left k))
    (cases_lt left cost)

-- ---- what is asked below
pub record Asked {A : Type 0} (b : Array A) (u : ℕ) (t : Pile A) (qs : List (Call A)) (b' : Array A) (u' : ℕ) (t' : Pile A) : Type 0 where
  pub array : b' ≡ after b qs
  pub undenied : Undenied b qs
  pub served : Served t b u qs t' u'
  pub rises : u ≤ u'

pub asked_write : {A : Type 0} (b b' : Array A) (u u' : ℕ) (t t' : Pile A) (p : ℕ) (v : A) (x : ℕ) → Wrote b u p v b' u' (Ok x) → Served t b u (Write p v ∷ []) t' u' → Asked b u t (Write p v ∷ []) b' u' t'
unfolding after Undenied
asked_write b b' u u' t t' p v x h s = record { array = h.array; undenied = (h.answer.0, tt); served = s; rises = let k = h.answer.1.0 in omega arith }

pub asked_read : {A : Type 0} (b : Array A) (u : ℕ) (t : Pile A) (p : ℕ) → p < length b.lines → Served t b u (Read p ∷ []) t u → Asked b u t (Read p ∷ []) b u t
unfolding after Undenied
asked_read b u t p h s = record { array = sym (next_read b p); undenied = (accepts_read b p h, tt); served = s; rises = omega arith }

pub asked_more : {A : Type 0} (b b' b'' : Array A) (u u' u'' : ℕ) (t t' t'' : Pile A) (qs rs : List (Call A)) → Asked b u t qs b' u' t' → Asked b' u' t' rs b'' u'' t'' → Asked b u t (qs ++ rs) b'' u'' t''
asked_more {A} b b' b'' u u' u'' t t' t'' qs rs h k =
    let K : Array A → Type 0 = λ x. Asked x u' t' rs b'' u'' t'' in
    let k' : Asked (after b qs) u' t' rs b'' u'' t'' = subst K h.array k in
    record {
      array = k'.array ∙ sym (after_append b qs rs);
      undenied = undenied_append b qs rs h.undenied k'.undenied;
      served = served_more t t' t'' b u u' u'' qs rs h.served k'.served;
      rises = let x = h.rises in let y = k.rises in omega arith;
    }

-- a call that a layer refuses
pub layer_denied : {A : Type 0} (s : Layer) (b : Array A) (u : ℕ) (t : Pile A) (a : Array A) (w : ℕ) (c : Call A) (e : Denial) → denied_by a c ≡ Some e → Served (over s b u t) a w (c ∷ []) (over s b u t) w
unfolding asked_at layer_at after Undenied
layer_denied {A} s b u t a w c e r =
    let q : asked_at s a c ≡ [] = ap (λ o. unless_denied o (requests s a.lines c) []) r in
    let R : List (Call A) → Type 0 = λ x. (b ≡ after b x) × Undenied b x × Served t b u x t u in
    let h : R (asked_at s a c) = subst R (sym q) (refl, tt, served_none t b u) in
    served_one s s b b u u t t a w w c (ap (λ o. unless_denied o (turned_by s c) s) (sym r)) h.0 h.1 (omega arith) h.2

-- a call that it does not
pub layer_accepted : {A : Type 0} (s s' : Layer) (b b' : Array A) (u u' : ℕ) (t t' : Pile A) (a : Array A) (c : Call A) → denied_by a c ≡ None → s' ≡ turned_by s c → Asked b u t (requests s a.lines c) b' u' t' → Served (over s b u t) a u (c ∷ []) (over s' b' u' t') u'
unfolding asked_at layer_at
layer_accepted {A} s s' b b' u u' t t' a c r es d =
    let q : asked_at s a c ≡ requests s a.lines c = ap (λ o. unless_denied o (requests s a.lines c) []) r in
    let R : List (Call A) → Type 0 = λ x. Asked b u t x b' u' t' in
    let h : R (asked_at s a c) = subst R (sym q) d in
    served_one s s' b b' u u' t t' a u u' c (es ∙ ap (λ o. unless_denied o (turned_by s c) s) (sym r)) h.array h.undenied (omega arith) h.served

pub never : (o : Option Denial) (e : Denial) → o ≡ None → o ≡ Some e → ⊥
never o e h k = let z : ◌≡◌ {A = ℕ} 0 1 = cc in omega arith

-- the same lines where each is found again
pub placed_keep : {A : Type 0} (n need : ℕ) (f f' : ℕ → ℕ) → ((i : ℕ) → i < n → f i < need) → ((i : ℕ) → i < n → f' i < need) → (ls ls' : List A) → need ≤ length ls → length ls' ≡ length ls → ((j : ℕ) (d : A) → j < n → get_or ls' (f' j) d ≡ get_or ls (f j) d) → placed_lines n need f' ls' ≡ placed_lines n need f ls
placed_keep n need f f' st st' ls ls' h el same =
    let h' : need ≤ length ls' = omega arith in
    let e = placed_length n need f st ls h in
    let e' = placed_length n need f' st' ls' h' in
    same_lists _ _ (omega arith) (λ k d hk.
    let kn : k < n = omega arith in
    placed_at n need f' st' ls' k d h' kn ∙ same k d kn ∙ sym (placed_at n need f st ls k d h kn))

-- what a read has answered
pub fetched_is : {A : Type 0} (ls : List A) (i : ℕ) (x d : A) → i < length ls → Ok x ≡ fetched ls i → x ≡ get_or ls i d
fetched_is ls i x d h e = let k = fetched_by ls i (get_or ls i d) d h refl in cc
