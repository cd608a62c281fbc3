-- One refresh. Raising the pointer by one changes only whether the line at the pointer and its mate count as remapped: where the mate is
-- above, both change from the previous key's place to the current one's, which is the other's; where it is below, they were remapped
-- already; where it is the line itself, the keys are equal. With the pointer at n all lines lie by the current key, which is where the
-- next round starts.
use Rattle.std.proofs.Common.{◌≡◌, ℕ, ◌+◌, ◌<◌, ◌≤◌, cond, ◌≢◌, List, [], length, get_or, sym, ap, ◌∙◌, subst, inl, inr, ⊎_elim, mod-lt, arith}
use lib.Bits.{bit_xor}
use Rattle.std.proofs.lemmas.Bool.{cases_lt, cases_eq, lt-ltb, le-ltb}
use Rattle.refresh.specs.declared.round.Round.{Round}
use Rattle.refresh.specs.Refresh.{pointer_mate, previous_place, current_place, mate_of, place_of, key_at, turn_after, advanced, next_round, refreshed, exchange, refresh_copies, Sound}
use Rattle.refresh.proofs.Places.{mate_mate, mate_current, mate_previous, ByCurrent, ByPrevious, which_key, place_current, place_previous, places_apart}

-- ---- the pointer one further
current_stays : (w : Round) (a : ℕ) → ByCurrent w a → place_of (advanced w) a ≡ place_of w a
current_stays w a f =
    place_current (advanced w) a (⊎_elim (λ (k : a < w.pointer). inl (omega arith)) (λ (k : mate_of w a < w.pointer). inr (omega arith)) f)
    ∙ sym (place_current w a f)

pub others_stay : (w : Round) (a : ℕ) → a ≢ w.pointer → a ≢ pointer_mate w → place_of (advanced w) a ≡ place_of w a
others_stay w a n m = ⊎_elim
    (λ (f : ByCurrent w a). current_stays w a f)
    (λ (s : ByPrevious w a).
    let s0 = s.0 in
    let s1 = s.1 in
    let n' : w.pointer ≢ mate_of w a = λ e. m (sym (mate_mate w a) ∙ ap (λ x. mate_of w x) (sym e)) in
    place_previous (advanced w) a (
      ⊎_elim (λ (e : a ≡ w.pointer). absurd (n e)) (λ ne. omega arith) (cases_eq a w.pointer),
      ⊎_elim (λ (e : w.pointer ≡ mate_of w a). absurd (n' e)) (λ ne. omega arith) (cases_eq w.pointer (mate_of w a)),
    )
    ∙ sym (place_previous w a s))
    (which_key w a)

-- where the mate is not above the pointer, no line moves
pub unexchanged_stays : (w : Round) → pointer_mate w ≤ w.pointer → (a : ℕ) → place_of (advanced w) a ≡ place_of w a
unexchanged_stays w h a =
    let r = w.pointer in
    let same : a ≡ r → place_of (advanced w) a ≡ place_of w a =
    λ e. ⊎_elim
    (λ (f : ByCurrent w a). current_stays w a f)
    (λ (s : ByPrevious w a).
    let s1 = s.1 in
    let em : mate_of w a ≡ mate_of w r = ap (λ x. mate_of w x) e in
    let fixed : mate_of w a ≡ a = omega arith in
    place_current (advanced w) a (inl (omega arith)) ∙ sym (mate_previous w a) ∙ ap (λ x. bit_xor x w.previous) fixed ∙ sym (place_previous w a s))
    (which_key w a) in
    ⊎_elim
    (λ (e : a ≡ r). same e)
    (λ ne. ⊎_elim
    (λ (e : a ≡ mate_of w r). ⊎_elim
    (λ (f : ByCurrent w a). current_stays w a f)
    (λ (s : ByPrevious w a). let s0 = s.0 in same (omega arith))
    (which_key w a))
    (λ nm. others_stay w a ne nm)
    (cases_eq a (mate_of w r)))
    (cases_eq a r)

-- where it is, the two change places
module _ (w : Round) (h : w.pointer < pointer_mate w) where
  pub line_before : place_of w w.pointer ≡ previous_place w
  line_before = place_previous w w.pointer (omega arith, omega arith)

  pub line_after : place_of (advanced w) w.pointer ≡ current_place w
  line_after = place_current (advanced w) w.pointer (inl (omega arith))

  pub mate_before : place_of w (pointer_mate w) ≡ current_place w
  mate_before =
      let e = mate_mate w w.pointer in
      place_previous w (pointer_mate w) (omega arith, omega arith) ∙ mate_previous w w.pointer

  pub mate_after : place_of (advanced w) (pointer_mate w) ≡ previous_place w
  mate_after =
      let e = mate_mate w w.pointer in
      place_current (advanced w) (pointer_mate w) (inr (omega arith)) ∙ mate_current w w.pointer

  -- the two places are not one
  pub two_places : previous_place w ≢ current_place w
  two_places e =
      let q : w.pointer ≡ pointer_mate w = places_apart w w.pointer (pointer_mate w) (line_before ∙ e ∙ sym mate_before) in
      omega arith

-- ---- the registers after a refresh
pub refreshed_onward : (n : ℕ) (keys : List ℕ) (w : Round) → w.pointer + 1 < n → refreshed n keys w ≡ advanced w
unfolding refreshed
refreshed_onward n keys w h = ap (λ b. cond b (advanced w) (next_round n keys w)) (lt-ltb (w.pointer + 1) n h)

pub refreshed_ended : (n : ℕ) (keys : List ℕ) (w : Round) → n ≤ w.pointer + 1 → refreshed n keys w ≡ next_round n keys w
unfolding refreshed
refreshed_ended n keys w h = ap (λ b. cond b (advanced w) (next_round n keys w)) (le-ltb (w.pointer + 1) n h)

-- a round's end moves no line
pub end_stays : (n : ℕ) (keys : List ℕ) (w : Round) → n ≤ w.pointer + 1 → (a : ℕ) → a < n → place_of (next_round n keys w) a ≡ place_of (advanced w) a
end_stays n keys w k a h =
    place_previous (next_round n keys w) a (omega arith, omega arith) ∙ sym (place_current (advanced w) a (inl (omega arith)))

pub refreshed_place : (n : ℕ) (keys : List ℕ) (w : Round) (a : ℕ) → a < n → place_of (refreshed n keys w) a ≡ place_of (advanced w) a
refreshed_place n keys w a h = ⊎_elim
    (λ (k : w.pointer + 1 < n). ap (λ (x : Round). place_of x a) (refreshed_onward n keys w k))
    (λ (k : n ≤ w.pointer + 1). ap (λ (x : Round). place_of x a) (refreshed_ended n keys w k) ∙ end_stays n keys w k a h)
    (cases_lt (w.pointer + 1) n)

-- ---- the copies of a refresh
pub copies_two : (w : Round) → w.pointer < pointer_mate w → refresh_copies w ≡ exchange w
unfolding refresh_copies
copies_two w h = ap (λ b. cond b (exchange w) []) (lt-ltb w.pointer (pointer_mate w) h)

pub copies_none : (w : Round) → pointer_mate w ≤ w.pointer → refresh_copies w ≡ []
unfolding refresh_copies
copies_none w h = ap (λ b. cond b (exchange w) []) (le-ltb w.pointer (pointer_mate w) h)

-- ---- a sound round stays sound
pub key_below : (n : ℕ) (keys : List ℕ) (i : ℕ) → 0 < n → key_at n keys i < n
key_below n keys i h = mod-lt (get_or keys i 0) h

pub refreshed_sound : (n : ℕ) (keys : List ℕ) (w : Round) → Sound n keys w → Sound n keys (refreshed n keys w)
refreshed_sound n keys w s =
    let hp = s.previous in
    let hc = s.current in
    let ht = s.turn in
    let hr = s.pointer in
    ⊎_elim
    (λ (l : w.pointer + 1 < n).
    subst (λ (x : Round). Sound n keys x) (sym (refreshed_onward n keys w l))
    (record { power = s.power; previous = hp; current = hc; turn = ht; pointer = l }))
    (λ (l : n ≤ w.pointer + 1).
    let z : 0 < n = omega arith in
    let zr : 0 < length keys = omega arith in
    subst (λ (x : Round). Sound n keys x) (sym (refreshed_ended n keys w l))
    (record { power = s.power; previous = hc; current = key_below n keys (turn_after keys w.turn) z; turn = mod-lt (w.turn + 1) zr; pointer = z }))
    (cases_lt (w.pointer + 1) n)
