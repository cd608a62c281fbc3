-- Many refreshes. Within a round only the pointer moves; at its end the turn moves one on in the ring. So after r refreshes of n lines the
-- pointer is r mod n and r div n rounds are done, by induction on r.
use Rattle.std.proofs.Common.{◌≡◌, ℕ, zero, suc, ◌+◌, ◌/◌, ◌%◌, ◌<◌, ◌≤◌, List, [], ◌∷◌, ◌++◌, map, length, sym, refl, ap, ◌∙◌, subst, inl, ⊎_elim, mod-eq_of_lt, add-one, arith}
use native.Mathlib.Nat.{mod-add-mod, mod-mod}
use lib.Bits.{bit_xor}
use Rattle.std.proofs.lemmas.Bool.{cases_lt}
use Rattle.refresh.specs.declared.round.Round.{Round}
use Rattle.refresh.specs.Refresh.{place_of, key_at, first_round, advanced, next_round, refreshed, after_refreshes, copies_of_refreshes, refresh_copies, Sound, round_at}
use Rattle.refresh.proofs.Places.{place_current}
use Rattle.refresh.proofs.Refreshes.{refreshed_onward, refreshed_ended, refreshed_place, refreshed_sound}
use Rattle.refresh.proofs.Quotients.{quotient_stays, quotient_rises, quotient_small}

pub after_none : (n : ℕ) (keys : List ℕ) (w : Round) → after_refreshes n keys 0 w ≡ w
unfolding after_refreshes
after_none n keys w = refl

pub after_more : (n : ℕ) (keys : List ℕ) (r : ℕ) (w : Round) → after_refreshes n keys (suc r) w ≡ refreshed n keys (after_refreshes n keys r w)
unfolding after_refreshes
after_more n keys r w = refl

pub copied_none : (n : ℕ) (keys : List ℕ) (w : Round) → copies_of_refreshes n keys 0 w ≡ []
unfolding copies_of_refreshes
copied_none n keys w = refl

pub copied_more : (n : ℕ) (keys : List ℕ) (r : ℕ) (w : Round) → copies_of_refreshes n keys (suc r) w ≡ copies_of_refreshes n keys r w ++ refresh_copies (after_refreshes n keys r w)
unfolding copies_of_refreshes
copied_more n keys r w = refl

pub after_sound : (n : ℕ) (keys : List ℕ) (r : ℕ) (w : Round) → Sound n keys w → Sound n keys (after_refreshes n keys r w)
after_sound n keys zero w s = subst (λ (x : Round). Sound n keys x) (sym (after_none n keys w)) s
after_sound n keys (suc r) w s =
    subst (λ (x : Round). Sound n keys x) (sym (after_more n keys r w)) (refreshed_sound n keys (after_refreshes n keys r w) (after_sound n keys r w s))

-- ---- within a round
abbrev pub pointed : Round → ℕ → Round
pointed w j = record { previous = w.previous; current = w.current; turn = w.turn; pointer = j }

pub within_round : (n : ℕ) (keys : List ℕ) (w : Round) → w.pointer ≡ 0 → (j : ℕ) → j < n → after_refreshes n keys j w ≡ pointed w j
within_round n keys w z zero h = after_none n keys w ∙ ap (λ x. pointed w x) z
within_round n keys w z (suc j) h =
    after_more n keys j w
    ∙ ap (λ (x : Round). refreshed n keys x) (within_round n keys w z j (omega arith))
    ∙ refreshed_onward n keys (pointed w j) (omega arith)
    ∙ ap (λ x. pointed w x) (add-one j)

pub round_next : (n : ℕ) (keys : List ℕ) (w : Round) → w.pointer ≡ 0 → (m : ℕ) → n ≡ suc m → after_refreshes n keys (suc m) w ≡ next_round n keys w
round_next n keys w z m e =
    after_more n keys m w
    ∙ ap (λ (x : Round). refreshed n keys x) (within_round n keys w z m (omega arith))
    ∙ refreshed_ended n keys (pointed w m) (omega arith)

-- at its end each line lies by the current key
pub round_ends : (n : ℕ) (keys : List ℕ) (w : Round) → w.pointer ≡ 0 → (m : ℕ) → n ≡ suc m → (a : ℕ) → a < n → place_of (after_refreshes n keys (suc m) w) a ≡ bit_xor a w.current
round_ends n keys w z m e a h =
    ap (λ (x : Round). place_of x a) (after_more n keys m w ∙ ap (λ (x : Round). refreshed n keys x) (within_round n keys w z m (omega arith)))
    ∙ refreshed_place n keys (pointed w m) a h
    ∙ place_current (advanced (pointed w m)) a (inl (omega arith))

-- ---- from new
module _ (n : ℕ) (keys : List ℕ) where
  -- the keys at i and j of the ring
  abbrev made : ℕ → ℕ → ℕ → Round
  made i j r = record { previous = key_at n keys i; current = key_at n keys j; turn = j; pointer = r }

  made_same : (i i' j j' r r' : ℕ) → i ≡ i' → j ≡ j' → r ≡ r' → made i j r ≡ made i' j' r'
  made_same i i' j j' r r' ei ej er = ap (λ x. made x j r) ei ∙ ap (λ x. made i' x r) ej ∙ ap (λ x. made i' j' x) er

  pub from_new : (r : ℕ) → 1 ≤ n → 2 ≤ length keys → after_refreshes n keys r (first_round n keys) ≡ round_at n keys r
  from_new zero h l =
      let q = quotient_small 0 n (omega arith) in
      let q0 = q.0 in
      let m0 : 0 % length keys ≡ 0 = mod-eq_of_lt (omega arith) in
      let m1 : 1 % length keys ≡ 1 = mod-eq_of_lt (omega arith) in
      after_none n keys (first_round n keys)
      ∙ made_same 0 (0 / n % length keys) 1 ((0 / n + 1) % length keys) 0 (0 % n)
      (sym (ap (λ x. x % length keys) q0 ∙ m0)) (sym (ap (λ x. (x + 1) % length keys) q0 ∙ m1)) (sym q.1)
  from_new (suc r) h l =
      let t = r / n in
      let len = length keys in
      after_more n keys r (first_round n keys)
      ∙ ap (λ (x : Round). refreshed n keys x) (from_new r h l)
      ∙ ⊎_elim
      (λ (k : r % n + 1 < n).
      let q = quotient_stays r n k in
      refreshed_onward n keys (round_at n keys r) k
      ∙ made_same (t % len) (suc r / n % len) ((t + 1) % len) ((suc r / n + 1) % len) (r % n + 1) (suc r % n)
      (sym (ap (λ x. x % len) q.0)) (sym (ap (λ x. (x + 1) % len) q.0)) (sym q.1))
      (λ (k : n ≤ r % n + 1).
      let q = quotient_rises r n (omega arith) k in
      refreshed_ended n keys (round_at n keys r) k
      ∙ made_same ((t + 1) % len) (suc r / n % len) (((t + 1) % len + 1) % len) ((suc r / n + 1) % len) 0 (suc r % n)
      (sym (ap (λ x. x % len) q.0)) (mod-add-mod (t + 1) len 1 ∙ sym (ap (λ x. (x + 1) % len) q.0)) (sym q.1))
      (cases_lt (r % n + 1) n)

-- ---- only the low bits of the keys count
module _ (n : ℕ) where
  abbrev low_bits : List ℕ → List ℕ
  low_bits keys = map (λ key. key % n) keys

  low_length : (keys : List ℕ) → length (low_bits keys) ≡ length keys
  low_length [] = refl
  low_length (x ∷ xs) = ap (λ l. suc l) (low_length xs)

  low_key : (keys : List ℕ) (i : ℕ) → key_at n (low_bits keys) i ≡ key_at n keys i
  low_key [] i = refl
  low_key (x ∷ xs) zero = mod-mod x n
  low_key (x ∷ xs) (suc i) = low_key xs i

  pub low_same : (keys : List ℕ) (r : ℕ) → 1 ≤ n → 2 ≤ length keys → after_refreshes n (low_bits keys) r (first_round n (low_bits keys)) ≡ after_refreshes n keys r (first_round n keys)
  low_same keys r h l =
      let e = low_length keys in
      let i = r / n % length keys in
      let j = (r / n + 1) % length keys in
      let m : ℕ → Round = λ len.
      record {
        previous = key_at n (low_bits keys) (r / n % len);
        current = key_at n (low_bits keys) ((r / n + 1) % len);
        turn = (r / n + 1) % len;
        pointer = r % n;
      } in
      from_new n (low_bits keys) r h (omega arith)
      ∙ ap m e
      ∙ ap (λ x. record { previous = x; current = key_at n (low_bits keys) j; turn = j; pointer = r % n }) (low_key keys i)
      ∙ ap (λ x. record { previous = key_at n keys i; current = x; turn = j; pointer = r % n }) (low_key keys j)
      ∙ sym (from_new n keys r h l)
