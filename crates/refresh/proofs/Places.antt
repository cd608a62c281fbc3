-- Where lines lie. Mates are mates of each other, and a line's place by one key is its mate's place by the other; a line and its mate are
-- always placed by the same key. So two lines that shared a place would be mates placed by different keys, which never is: places are
-- apart. The line at a place is sought among the two that either key would bring there, which are mates.
use Rattle.std.proofs.Common.{◌≡◌, ℕ, ◌^◌, ◌<◌, ◌≤◌, true, false, cond, ◌||◌, ltb, ◌⊎◌, Some, None, Option, sym, ap, ◌∙◌, subst, inl, inr, ⊎_elim, arith}
use lib.Bits.{bit_xor, xor_assoc, xor_comm, xor_lt}
use Rattle.std.proofs.lemmas.Bool.{cases_lt, lt-ltb, le-ltb, or_left, or_right, or_from}
use Rattle.refresh.specs.declared.round.Round.{Round}
use Rattle.refresh.specs.Refresh.{mate_of, remapped, place_of, line_at, holder_at}
use Rattle.refresh.specs.Theorems.{Mapping}
use Rattle.refresh.proofs.Xors.{xor_back, xor_apart}

-- ---- mates
pub mate_is : (w : Round) (a : ℕ) → mate_of w a ≡ bit_xor a (bit_xor w.previous w.current)
mate_is w a = xor_assoc a w.previous w.current

pub mate_mate : (w : Round) (a : ℕ) → mate_of w (mate_of w a) ≡ a
mate_mate w a =
    mate_is w (mate_of w a) ∙ ap (λ x. bit_xor x (bit_xor w.previous w.current)) (mate_is w a) ∙ xor_back a _

-- the mate's place by one key is the line's by the other
pub mate_current : (w : Round) (a : ℕ) → bit_xor (mate_of w a) w.current ≡ bit_xor a w.previous
mate_current w a = xor_back (bit_xor a w.previous) w.current

pub mate_previous : (w : Round) (a : ℕ) → bit_xor (mate_of w a) w.previous ≡ bit_xor a w.current
mate_previous w a =
    xor_assoc (bit_xor a w.previous) w.current w.previous
    ∙ ap (λ x. bit_xor (bit_xor a w.previous) x) (xor_comm w.current w.previous)
    ∙ sym (xor_assoc (bit_xor a w.previous) w.previous w.current)
    ∙ ap (λ x. bit_xor x w.current) (xor_back a w.previous)

pub mate_below : (k : ℕ) (w : Round) → w.previous < 2 ^ k → w.current < 2 ^ k → (a : ℕ) → a < 2 ^ k → mate_of w a < 2 ^ k
mate_below k w hp hc a h = xor_lt k (bit_xor a w.previous) w.current (xor_lt k a w.previous h hp) hc

-- ---- lines that the current key places, and lines that the previous one does
abbrev pub ByCurrent : Round → ℕ → Type 0
ByCurrent w a = (a < w.pointer) ⊎ (mate_of w a < w.pointer)

abbrev pub ByPrevious : Round → ℕ → Type 0
ByPrevious w a = (w.pointer ≤ a) × (w.pointer ≤ mate_of w a)

pub which_key : (w : Round) (a : ℕ) → ByCurrent w a ⊎ ByPrevious w a
which_key w a = ⊎_elim
    (λ (k : a < w.pointer). inl (inl k))
    (λ (k : w.pointer ≤ a). ⊎_elim (λ (l : mate_of w a < w.pointer). inl (inr l)) (λ (l : w.pointer ≤ mate_of w a). inr (k, l)) (cases_lt (mate_of w a) w.pointer))
    (cases_lt a w.pointer)

pub place_current : (w : Round) (a : ℕ) → ByCurrent w a → place_of w a ≡ bit_xor a w.current
unfolding place_of
place_current w a h =
    let e : remapped w a ≡ true = ⊎_elim
    (λ (k : a < w.pointer). or_left (ltb a w.pointer) (ltb (mate_of w a) w.pointer) (lt-ltb a w.pointer k))
    (λ (k : mate_of w a < w.pointer). or_right (ltb a w.pointer) (ltb (mate_of w a) w.pointer) (lt-ltb (mate_of w a) w.pointer k))
    h in
    ap (λ b. cond b (bit_xor a w.current) (bit_xor a w.previous)) e

pub place_previous : (w : Round) (a : ℕ) → ByPrevious w a → place_of w a ≡ bit_xor a w.previous
unfolding place_of
place_previous w a h =
    let e : remapped w a ≡ false =
    or_from (ltb a w.pointer) (ltb (mate_of w a) w.pointer) (le-ltb a w.pointer h.0) (le-ltb (mate_of w a) w.pointer h.1) in
    ap (λ b. cond b (bit_xor a w.current) (bit_xor a w.previous)) e

mate_by_current : (w : Round) (a : ℕ) → ByCurrent w a → ByCurrent w (mate_of w a)
mate_by_current w a h =
    let e = mate_mate w a in
    ⊎_elim (λ (k : a < w.pointer). inr (omega arith)) (λ (k : mate_of w a < w.pointer). inl k) h

by_previous_only : (w : Round) (a : ℕ) → ByPrevious w a → ByCurrent w a → ⊥
by_previous_only w a s f =
    let s0 = s.0 in
    let s1 = s.1 in
    ⊎_elim (λ (k : a < w.pointer). omega arith) (λ (k : mate_of w a < w.pointer). omega arith) f

-- ---- places stay below 2 ^ k, and are apart
pub place_below : (k : ℕ) (w : Round) → w.previous < 2 ^ k → w.current < 2 ^ k → (a : ℕ) → a < 2 ^ k → place_of w a < 2 ^ k
place_below k w hp hc a h = ⊎_elim
    (λ f. subst (λ x. x < 2 ^ k) (sym (place_current w a f)) (xor_lt k a w.current h hc))
    (λ s. subst (λ x. x < 2 ^ k) (sym (place_previous w a s)) (xor_lt k a w.previous h hp))
    (which_key w a)

mixed : (w : Round) (a b : ℕ) → ByCurrent w a → ByPrevious w b → place_of w a ≡ place_of w b → ⊥
mixed w a b f s e =
    let q : bit_xor (mate_of w b) w.current ≡ bit_xor a w.current = mate_current w b ∙ sym (place_previous w b s) ∙ sym e ∙ place_current w a f in
    let m : mate_of w b ≡ a = xor_apart (mate_of w b) a w.current q in
    by_previous_only w b s (subst (λ x. ByCurrent w x) (mate_mate w b) (mate_by_current w (mate_of w b) (subst (λ x. ByCurrent w x) (sym m) f)))

pub places_apart : (w : Round) (a b : ℕ) → place_of w a ≡ place_of w b → a ≡ b
places_apart w a b e = ⊎_elim
    (λ (fa : ByCurrent w a). ⊎_elim
    (λ (fb : ByCurrent w b). xor_apart a b w.current (sym (place_current w a fa) ∙ e ∙ place_current w b fb))
    (λ (sb : ByPrevious w b). absurd (mixed w a b fa sb e))
    (which_key w b))
    (λ (sa : ByPrevious w a). ⊎_elim
    (λ (fb : ByCurrent w b). absurd (mixed w b a fb sa (sym e)))
    (λ (sb : ByPrevious w b). xor_apart a b w.previous (sym (place_previous w a sa) ∙ e ∙ place_previous w b sb))
    (which_key w b))
    (which_key w a)

-- ---- the line at a place
two_mates : (w : Round) (q : ℕ) → mate_of w (bit_xor q w.current) ≡ bit_xor q w.previous
two_mates w q =
    sym (xor_back (mate_of w (bit_xor q w.current)) w.previous)
    ∙ ap (λ x. bit_xor x w.previous) (mate_previous w (bit_xor q w.current) ∙ xor_back q w.current)

two_mates_back : (w : Round) (q : ℕ) → mate_of w (bit_xor q w.previous) ≡ bit_xor q w.current
two_mates_back w q = ap (λ x. bit_xor x w.current) (xor_back q w.previous)

pub line_current : (w : Round) (q : ℕ) → (bit_xor q w.current < w.pointer) ⊎ (bit_xor q w.previous < w.pointer) → line_at w q ≡ bit_xor q w.current
unfolding line_at
line_current w q h =
    let x = ltb (bit_xor q w.current) w.pointer in
    let y = ltb (bit_xor q w.previous) w.pointer in
    let e : (x || y) ≡ true = ⊎_elim
    (λ (k : bit_xor q w.current < w.pointer). or_left x y (lt-ltb _ _ k))
    (λ (k : bit_xor q w.previous < w.pointer). or_right x y (lt-ltb _ _ k))
    h in
    ap (λ b. cond b (bit_xor q w.current) (bit_xor q w.previous)) e

pub line_previous : (w : Round) (q : ℕ) → w.pointer ≤ bit_xor q w.current → w.pointer ≤ bit_xor q w.previous → line_at w q ≡ bit_xor q w.previous
unfolding line_at
line_previous w q h k =
    ap (λ b. cond b (bit_xor q w.current) (bit_xor q w.previous))
    (or_from (ltb (bit_xor q w.current) w.pointer) (ltb (bit_xor q w.previous) w.pointer) (le-ltb _ _ h) (le-ltb _ _ k))

pub place_line : (w : Round) (q : ℕ) → place_of w (line_at w q) ≡ q
place_line w q =
    let ec = two_mates w q in
    let ep = two_mates_back w q in
    ⊎_elim
    (λ (h : ByCurrent w (bit_xor q w.current)).
    ap (λ x. place_of w x) (line_current w q (⊎_elim (λ (k : bit_xor q w.current < w.pointer). inl k) (λ (k : mate_of w (bit_xor q w.current) < w.pointer). inr (omega arith)) h))
    ∙ place_current w (bit_xor q w.current) h ∙ xor_back q w.current)
    (λ (h : ByPrevious w (bit_xor q w.current)).
    let h0 = h.0 in
    let h1 = h.1 in
    ap (λ x. place_of w x) (line_previous w q h0 (omega arith))
    ∙ place_previous w (bit_xor q w.previous) (omega arith, omega arith) ∙ xor_back q w.previous)
    (which_key w (bit_xor q w.current))

pub line_place : (w : Round) (a : ℕ) → line_at w (place_of w a) ≡ a
line_place w a = places_apart w (line_at w (place_of w a)) a (place_line w (place_of w a))

pub line_below : (k : ℕ) (w : Round) → w.previous < 2 ^ k → w.current < 2 ^ k → (q : ℕ) → q < 2 ^ k → line_at w q < 2 ^ k
line_below k w hp hc q h = ⊎_elim
    (λ (f : (bit_xor q w.current < w.pointer) ⊎ (bit_xor q w.previous < w.pointer)). subst (λ x. x < 2 ^ k) (sym (line_current w q f)) (xor_lt k q w.current h hc))
    (λ (s : (w.pointer ≤ bit_xor q w.current) × (w.pointer ≤ bit_xor q w.previous)). subst (λ x. x < 2 ^ k) (sym (line_previous w q s.0 s.1)) (xor_lt k q w.previous h hp))
    (⊎_elim
    (λ (i : bit_xor q w.current < w.pointer). inl (inl i))
    (λ (i : w.pointer ≤ bit_xor q w.current). ⊎_elim
    (λ (j : bit_xor q w.previous < w.pointer). inl (inr j))
    (λ (j : w.pointer ≤ bit_xor q w.previous). inr (i, j))
    (cases_lt (bit_xor q w.previous) w.pointer))
    (cases_lt (bit_xor q w.current) w.pointer))

pub holder_below : (n : ℕ) (w : Round) (q : ℕ) → q < n → holder_at n w q ≡ Some (line_at w q)
holder_below n w q h = ap (λ b. cond b (Some (line_at w q)) None) (lt-ltb q n h)

pub holder_above : (n : ℕ) (w : Round) (q : ℕ) → n ≤ q → holder_at n w q ≡ None
holder_above n w q h = ap (λ b. cond b (Some (line_at w q)) None) (le-ltb q n h)

-- ---- the same, as the two arms of a test `first || second` know it
pub place_remapped : (w : Round) (a : ℕ) → (a < w.pointer) ⊎ ((w.pointer ≤ a) × (mate_of w a < w.pointer)) → bit_xor a w.current ≡ place_of w a
place_remapped w a h =
    sym (place_current w a (⊎_elim (λ (k : a < w.pointer). inl k) (λ (k : (w.pointer ≤ a) × (mate_of w a < w.pointer)). inr k.1) h))

pub place_waiting : (w : Round) (a : ℕ) → (w.pointer ≤ a) × (w.pointer ≤ mate_of w a) → bit_xor a w.previous ≡ place_of w a
place_waiting w a h = sym (place_previous w a h)

pub holder_remapped : (n : ℕ) (w : Round) (q : ℕ) → q < n → (bit_xor q w.current < w.pointer) ⊎ ((w.pointer ≤ bit_xor q w.current) × (bit_xor q w.previous < w.pointer)) → Some (bit_xor q w.current) ≡ holder_at n w q
holder_remapped n w q l h =
    let e = line_current w q (⊎_elim (λ (k : bit_xor q w.current < w.pointer). inl k) (λ (k : (w.pointer ≤ bit_xor q w.current) × (bit_xor q w.previous < w.pointer)). inr k.1) h) in
    sym (holder_below n w q l ∙ ap (λ (x : ℕ). Some x) e)

pub holder_waiting : (n : ℕ) (w : Round) (q : ℕ) → q < n → (w.pointer ≤ bit_xor q w.current) × (w.pointer ≤ bit_xor q w.previous) → Some (bit_xor q w.previous) ≡ holder_at n w q
holder_waiting n w q l h = sym (holder_below n w q l ∙ ap (λ (x : ℕ). Some x) (line_previous w q h.0 h.1))

-- ---- all of it, at a sound round
pub mapping : (n k : ℕ) (w : Round) → n ≡ 2 ^ k → w.previous < n → w.current < n → Mapping n w
mapping n k w e hp hc =
    let hp' : w.previous < 2 ^ k = omega arith in
    let hc' : w.current < 2 ^ k = omega arith in
    let below : (a : ℕ) → a < n → place_of w a < n = λ a h. (let q = place_below k w hp' hc' a (omega arith) in omega arith) in
    record {
      place_below = below;
      mate_below = λ a h. (let q = mate_below k w hp' hc' a (omega arith) in omega arith);
      mates = mate_mate w;
      apart = places_apart w;
      held = λ a h. holder_below n w (place_of w a) (below a h) ∙ ap (λ (x : ℕ). Some x) (line_place w a);
      placed = λ q a h. ⊎_elim
          (λ (l : q < n).
          let s : Some (line_at w q) ≡ Some a = sym (holder_below n w q l) ∙ h in
          let same : line_at w q ≡ a = cc in
          let b = line_below k w hp' hc' q (omega arith) in
          (omega arith, sym (ap (place_of w) same) ∙ place_line w q))
          (λ (l : n ≤ q).
          let s : ◌≡◌ {A = Option ℕ} None (Some a) = sym (holder_above n w q l) ∙ h in
          let z : ◌≡◌ {A = ℕ} 0 1 = cc in
          absurd (omega arith))
          (cases_lt q n);
      some = λ q l. (line_at w q, holder_below n w q l);
      none = holder_above n w;
    }
