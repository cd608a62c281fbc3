-- What the places hold after a refresh. The two copies read both places before they write, so the two lines' contents change places with
-- them; every other line lies elsewhere, since places are apart, and is not written.
use Rattle.std.proofs.Common.{◌≡◌, ℕ, zero, suc, ◌<◌, ◌≤◌, cond, eqb, ◌≢◌, ◌⊎◌, List, length, get_or, set, sym, refl, ap, ◌∙◌, subst, inl, inr, ⊎_elim, arith}
use lib.Bits.{bit_xor}
use Rattle.std.proofs.lemmas.Bool.{cases_lt, cases_eq, eq-eqb, ne_eqb}
use Rattle.std.proofs.lemmas.List.{length-set, get_or-set_same, get_or-set_other}
use Rattle.std.specs.List.{AllByRecursion}
use Rattle.refresh.specs.declared.round.Round.{Round}
use Rattle.line.specs.Copies.{after_copies}
use Rattle.refresh.specs.Refresh.{pointer_mate, previous_place, current_place, mate_of, place_of, holder_at, advanced, refreshed, refresh_copies, after_refreshes, held_after, Sound}
use Rattle.refresh.specs.Theorems.{Carried, OneRefresh}
use Rattle.refresh.proofs.Places.{mate_below, places_apart, mapping}
use Rattle.refresh.proofs.Walks.{after_none, after_more}
use Rattle.refresh.proofs.Refreshes.{others_stay, unexchanged_stays, line_before, line_after, mate_before, mate_after, two_places, refreshed_onward, refreshed_ended, end_stays, refreshed_place, refreshed_sound, copies_two, copies_none}

-- ---- an exchange of two places, from any contents
-- x, y are written at p and then at q
module _ {A : Type 0} (held : ℕ → A) (p q : ℕ) (x y : A) where
  abbrev pub both_written : ℕ → A
  both_written z = cond (eqb z q) y (cond (eqb z p) x (held z))

  written_second : both_written q ≡ y
  written_second = ap (λ b. cond b y (cond (eqb q p) x (held q))) (eq-eqb q q refl)

  written_first : p ≢ q → both_written p ≡ x
  written_first n =
      ap (λ b. cond b y (cond (eqb p p) x (held p))) (ne_eqb p q n) ∙ ap (λ b. cond b x (held p)) (eq-eqb p p refl)

  written_else : (z : ℕ) → z ≢ p → z ≢ q → both_written z ≡ held z
  written_else z n m = ap (λ b. cond b y (cond (eqb z p) x (held z))) (ne_eqb z q m) ∙ ap (λ b. cond b x (held z)) (ne_eqb z p n)

-- a line is the one at the pointer, its mate, or another
three : (w : Round) (a : ℕ) → (a ≡ w.pointer) ⊎ ((a ≡ pointer_mate w) ⊎ ((a ≢ w.pointer) × (a ≢ pointer_mate w)))
three w a = ⊎_elim
    (λ (e : a ≡ w.pointer). inl e)
    (λ (n : a ≢ w.pointer). ⊎_elim (λ (e : a ≡ pointer_mate w). inr (inl e)) (λ (m : a ≢ pointer_mate w). inr (inr (n, m))) (cases_eq a (pointer_mate w)))
    (cases_eq a w.pointer)

-- ---- whatever says what a place holds before and after an exchange, each line keeps what it held
-- `after` has at the pointer xor p what `before` had at the pointer xor c, and the other way round
pub exchange_keeps : {A : Type 0} (w : Round) (before after : ℕ → A) → w.pointer < pointer_mate w
    → after (previous_place w) ≡ before (current_place w)
    → after (current_place w) ≡ before (previous_place w)
    → ((z : ℕ) → z ≢ previous_place w → z ≢ current_place w → after z ≡ before z)
    → (a : ℕ) → after (place_of (advanced w) a) ≡ before (place_of w a)
exchange_keeps w before after hm e1 e2 other a = ⊎_elim
    (λ (e : a ≡ w.pointer).
    ap (λ z. after (place_of (advanced w) z)) e ∙ ap after (line_after w hm) ∙ e2 ∙ ap before (sym (line_before w hm)) ∙ ap (λ z. before (place_of w z)) (sym e))
    (⊎_elim
    (λ (e : a ≡ pointer_mate w).
    ap (λ z. after (place_of (advanced w) z)) e ∙ ap after (mate_after w hm) ∙ e1 ∙ ap before (sym (mate_before w hm)) ∙ ap (λ z. before (place_of w z)) (sym e))
    (λ (n : (a ≢ w.pointer) × (a ≢ pointer_mate w)).
    ap after (others_stay w a n.0 n.1)
    ∙ other (place_of w a) (λ e. n.0 (places_apart w a w.pointer (e ∙ sym (line_before w hm)))) (λ e. n.1 (places_apart w a (pointer_mate w) (e ∙ sym (mate_before w hm))))))
    (three w a)

-- ---- the copies of a refresh, by places
pub refresh_keeps : {A : Type 0} (n : ℕ) (keys : List ℕ) (w : Round) (held : ℕ → A) (a : ℕ) → a < n
    → after_copies held (refresh_copies w) (place_of (refreshed n keys w) a) ≡ held (place_of w a)
refresh_keeps {A} n keys w held a h =
    let p = previous_place w in
    let c = current_place w in
    ap (λ q. after_copies held (refresh_copies w) q) (refreshed_place n keys w a h) ∙ ⊎_elim
    (λ (m : w.pointer < pointer_mate w).
    let np = two_places w m in
    let after : ℕ → A = both_written held p c (held c) (held p) in
    ap (λ ks. after_copies held ks (place_of (advanced w) a)) (copies_two w m)
    ∙ exchange_keeps w held after m (written_first held p c (held c) (held p) np) (written_second held p c (held c) (held p)) (written_else held p c (held c) (held p)) a)
    (λ (m : pointer_mate w ≤ w.pointer).
    ap (λ ks. after_copies held ks (place_of (advanced w) a)) (copies_none w m) ∙ ap held (unexchanged_stays w m a))
    (cases_lt w.pointer (pointer_mate w))

-- ---- and of many refreshes
held_none : {A : Type 0} (n : ℕ) (keys : List ℕ) (w : Round) (held : ℕ → A) → held_after n keys 0 w held ≡ held
unfolding held_after
held_none n keys w held = refl

held_more : {A : Type 0} (n : ℕ) (keys : List ℕ) (r : ℕ) (w : Round) (held : ℕ → A) → held_after n keys (suc r) w held ≡ after_copies (held_after n keys r w held) (refresh_copies (after_refreshes n keys r w))
unfolding held_after
held_more n keys r w held = refl

pub refreshes_keep : {A : Type 0} (n : ℕ) (keys : List ℕ) (r : ℕ) (w : Round) (held : ℕ → A) (a : ℕ) → a < n
    → held_after n keys r w held (place_of (after_refreshes n keys r w) a) ≡ held (place_of w a)
refreshes_keep {A} n keys zero w held a h =
    ap (λ (x : Round). held_after n keys 0 w held (place_of x a)) (after_none n keys w)
    ∙ ap (λ (f : ℕ → A). f (place_of w a)) (held_none n keys w held)
refreshes_keep {A} n keys (suc r) w held a h =
    ap (λ (x : Round). held_after n keys (suc r) w held (place_of x a)) (after_more n keys r w)
    ∙ ap (λ (f : ℕ → A). f (place_of (refreshed n keys (after_refreshes n keys r w)) a)) (held_more n keys r w held)
    ∙ refresh_keeps n keys (after_refreshes n keys r w) (held_after n keys r w held) a h
    ∙ refreshes_keep n keys r w held a h

-- ---- and over a list of places: x and y were read at both before x is written at the first and y at the second
pub exchange_set : {A : Type 0} (w : Round) (ls : List A) (x y d : A) → w.pointer < pointer_mate w
    → previous_place w < length ls → current_place w < length ls
    → x ≡ get_or ls (current_place w) d → y ≡ get_or ls (previous_place w) d
    → (a : ℕ) → get_or (set (set ls (previous_place w) x) (current_place w) y) (place_of (advanced w) a) d ≡ get_or ls (place_of w a) d
exchange_set w ls x y d hm hp hc ex ey =
    let p = previous_place w in
    let c = current_place w in
    let np = two_places w hm in
    let l = length-set ls p x in
    exchange_keeps w (λ z. get_or ls z d) (λ z. get_or (set (set ls p x) c y) z d) hm
    (get_or-set_other (set ls p x) c p y d np ∙ get_or-set_same ls p x d hp ∙ ex)
    (get_or-set_same (set ls p x) c y d (omega arith) ∙ ey)
    (λ z n m. get_or-set_other (set ls p x) c z y d m ∙ get_or-set_other ls p z x d n)

-- the same after the whole refresh, and where nothing is exchanged
pub refresh_set : {A : Type 0} (n : ℕ) (keys : List ℕ) (w : Round) (ls : List A) (x y d : A) → w.pointer < pointer_mate w
    → previous_place w < length ls → current_place w < length ls
    → x ≡ get_or ls (current_place w) d → y ≡ get_or ls (previous_place w) d
    → (a : ℕ) → a < n → get_or (set (set ls (previous_place w) x) (current_place w) y) (place_of (refreshed n keys w) a) d ≡ get_or ls (place_of w a) d
refresh_set n keys w ls x y d hm hp hc ex ey a h =
    ap (λ q. get_or (set (set ls (previous_place w) x) (current_place w) y) q d) (refreshed_place n keys w a h)
    ∙ exchange_set w ls x y d hm hp hc ex ey a

pub unexchanged_place : (n : ℕ) (keys : List ℕ) (w : Round) → pointer_mate w ≤ w.pointer → (a : ℕ) → a < n → place_of (refreshed n keys w) a ≡ place_of w a
unexchanged_place n keys w m a h = refreshed_place n keys w a h ∙ unexchanged_stays w m a

-- a write at a line's place is seen at that line alone
pub write_place : {A : Type 0} (w : Round) (ls : List A) (i : ℕ) (v d : A) → place_of w i < length ls
    → (get_or (set ls (place_of w i) v) (place_of w i) d ≡ v) × ((a : ℕ) → a ≢ i → get_or (set ls (place_of w i) v) (place_of w a) d ≡ get_or ls (place_of w a) d)
write_place w ls i v d l = (
  get_or-set_same ls (place_of w i) v d l,
  λ a ne. get_or-set_other ls (place_of w i) (place_of w a) v d (λ e. ne (places_apart w a i e)),
)

-- ---- all that one refresh does
pub one_refresh : (n : ℕ) (keys : List ℕ) (w : Round) → Sound n keys w → OneRefresh n keys w
one_refresh n keys w s =
    let r = w.pointer in
    let hr = s.pointer in
    let k = s.power.0 in
    let e = s.power.1 in
    let hp = s.previous in
    let hc = s.current in
    let hm : mate_of w r < n = (let q = mate_below k w (omega arith) (omega arith) r (omega arith) in omega arith) in
    let to = refreshed_place n keys w in
    let v = refreshed n keys w in
    let s' = refreshed_sound n keys w s in
    let before = mapping n k w e hp hc in
    let after = mapping n s'.power.0 v s'.power.1 s'.previous s'.current in
    let carries : (a p q : ℕ) → a < n → place_of w a ≡ p → place_of v a ≡ q → p ≢ q → Carried n w v (record { moved = a; from = p; to = q }) =
    λ a p q h ep eq ne.
    record {
      line = h;
      read = ep;
      write = eq;
      held_before = ap (λ x. holder_at n w x) (sym ep) ∙ before.held a h;
      held_after = ap (λ x. holder_at n v x) (sym eq) ∙ after.held a h;
      apart = ne;
    } in
    record {
      exchanged = λ m. (
        to r hr ∙ line_after w m ∙ sym (mate_before w m),
        to (mate_of w r) hm ∙ mate_after w m ∙ sym (line_before w m),
        copies_two w m,
      );
      unexchanged = λ m. ((λ a h. to a h ∙ unexchanged_stays w m a), copies_none w m);
      others = λ a h n1 n2. to a h ∙ others_stay w a n1 n2;
      onward = refreshed_onward n keys w;
      ended = λ l. refreshed_ended n keys w (omega arith);
      end_unmoved = λ l. end_stays n keys w (omega arith);
      carried = ⊎_elim
          (λ (m : r < mate_of w r).
          subst (λ ks. AllByRecursion (Carried n w (refreshed n keys w)) ks) (sym (copies_two w m)) (
            carries (mate_of w r) (bit_xor r w.current) (bit_xor r w.previous) hm (mate_before w m) (to (mate_of w r) hm ∙ mate_after w m) (λ q. two_places w m (sym q)),
            (carries r (bit_xor r w.previous) (bit_xor r w.current) hr (line_before w m) (to r hr ∙ line_after w m) (two_places w m), tt),
          ))
          (λ (m : mate_of w r ≤ r). subst (λ ks. AllByRecursion (Carried n w (refreshed n keys w)) ks) (sym (copies_none w m)) tt)
          (cases_lt r (mate_of w r));
      kept = refresh_keeps n keys w;
    }
