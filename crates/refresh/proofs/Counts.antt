-- How many copies there are. A refresh makes two where the mate of the line at the pointer is above it, so a round's first j refreshes make
-- twice as many as there are such lines below j: of all n lines exactly half, where the keys differ. Rounds that change nothing make none,
-- and a part of a round at most j and half the lines; hence the bound over any number of refreshes.
use Rattle.std.proofs.Common.{◌≡◌, ℕ, zero, suc, ◌+◌, ◌-◌, ◌*◌, ◌/◌, ◌%◌, ◌^◌, ◌<◌, ◌≤◌, true, false, cond, eqb, ◌≢◌, List, length, sym, refl, ap, ◌∙◌, subst, ⊎_elim, mod-lt, mul_comm, mul-le-mul_left, div-add-mod', zero-add, mul-add, add-one, arith, length-append, pow_pos}
use lib.Bits.{bit_xor, xor_self, xor_lt}
use Rattle.std.proofs.lemmas.Bool.{cases_lt, cases_eq, eq-eqb, ne_eqb}
use Rattle.refresh.specs.declared.round.Round.{Round}
use Rattle.refresh.specs.Powers.{PowerOfTwo}
use Rattle.refresh.specs.Refresh.{pointer_mate, place_of, key_at, first_round, advanced, next_round, refreshed, refresh_copies, after_refreshes, copies_of_refreshes, Sound, Registers, new_registers, after_writes, copies_of_writes, key_difference, mates_above, changes, Bounded, registers_at}
use Rattle.refresh.specs.Theorems.{WholeRound, Counted, BoundKept}
use Rattle.refresh.proofs.Xors.{xor_zero}
use Rattle.refresh.proofs.Places.{mate_is, place_previous}
use Rattle.refresh.proofs.Refreshes.{copies_two, copies_none, key_below, refreshed_onward, refreshed_ended}
use Rattle.refresh.proofs.Mates.{above, above_yes, above_no, mates_more, mates_none, mates_zero, mates_most, mates_all}
use Rattle.refresh.proofs.Quotients.{quotient_stays, quotient_rises, quotient_small}
use Rattle.refresh.proofs.Walks.{copied_none, copied_more, within_round, round_next, round_ends, from_new}
use Rattle.refresh.proofs.Writes.{walked}

-- ---- one refresh
pub copies_length : (w : Round) → length (refresh_copies w) ≡ 2 * above (key_difference w) w.pointer
copies_length w =
    let e = mate_is w w.pointer in
    ⊎_elim
    (λ (m : w.pointer < pointer_mate w). let y = above_yes (key_difference w) w.pointer (omega arith) in ap length (copies_two w m) ∙ omega arith)
    (λ (m : pointer_mate w ≤ w.pointer). let y = above_no (key_difference w) w.pointer (omega arith) in ap length (copies_none w m) ∙ omega arith)
    (cases_lt w.pointer (pointer_mate w))

pub copied_length : (n : ℕ) (keys : List ℕ) (r : ℕ) (w : Round) → length (copies_of_refreshes n keys (suc r) w) ≡ length (copies_of_refreshes n keys r w) + 2 * above (key_difference (after_refreshes n keys r w)) (after_refreshes n keys r w).pointer
copied_length n keys r w =
    let a = ap length (copied_more n keys r w) in
    let b = length-append (copies_of_refreshes n keys r w) (refresh_copies (after_refreshes n keys r w)) in
    let c = copies_length (after_refreshes n keys r w) in
    omega arith

-- ---- a round
pub part_length : (n : ℕ) (keys : List ℕ) (w : Round) → w.pointer ≡ 0 → (j : ℕ) → j ≤ n → length (copies_of_refreshes n keys j w) ≡ 2 * mates_above (key_difference w) j
part_length n keys w z zero h = let a = ap length (copied_none n keys w) in let b = mates_none (key_difference w) in omega arith
part_length n keys w z (suc j) h =
    let ih = part_length n keys w z j (omega arith) in
    let e = within_round n keys w z j (omega arith) in
    let s = copied_length n keys j w in
    let q = ap (λ (x : Round). above (key_difference x) x.pointer) e in
    let m = mates_more (key_difference w) j in
    let o = ap (λ x. mates_above (key_difference w) x) (add-one j) in
    omega arith

-- all lines of a round, for keys a and b
round_mates : (n k a b : ℕ) → n ≡ 2 ^ k → a < n → b < n → 2 * mates_above (bit_xor a b) n ≡ n * cond (eqb a b) 0 1
round_mates n k a b e ha hb = ⊎_elim
    (λ (q : a ≡ b).
    let x : bit_xor a b ≡ 0 = ap (λ y. bit_xor y b) q ∙ xor_self b in
    let m = ap (λ y. mates_above y n) x ∙ mates_zero n in
    let c = ap (λ t. n * cond t 0 1) (eq-eqb a b q) in
    omega arith)
    (λ (q : a ≢ b).
    let x : bit_xor a b ≢ 0 = λ y. q (xor_zero a b y) in
    let m = mates_all k (bit_xor a b) (xor_lt k a b (omega arith) (omega arith)) x in
    let f = ap (λ y. mates_above (bit_xor a b) y) e in
    let c = ap (λ t. n * cond t 0 1) (ne_eqb a b q) in
    omega arith)
    (cases_eq a b)

pub whole_round : (n : ℕ) (keys : List ℕ) (w : Round) → Sound n keys w → w.pointer ≡ 0 → WholeRound n keys w
whole_round n keys w s z =
    let k = s.power.0 in
    let e = s.power.1 in
    let pos = pow_pos k in
    let hp = s.previous in
    let hc = s.current in
    let all = part_length n keys w z n (omega arith) in
    let count = round_mates n k w.previous w.current e hp hc in
    let en : n ≡ suc (n - 1) = omega arith in
    record {
      part = part_length n keys w z;
      changing = λ q. (let c = ap (λ t. n * cond t 0 1) (ne_eqb w.previous w.current q) in omega arith);
      unchanging = λ q. (let c = ap (λ t. n * cond t 0 1) (eq-eqb w.previous w.current q) in omega arith);
      ends = ap (λ x. after_refreshes n keys x w) en ∙ round_next n keys w z (n - 1) en;
      first = λ a. place_previous w a (omega arith, omega arith);
      last = λ a h. ap (λ x. place_of (after_refreshes n keys x w) a) en ∙ round_ends n keys w z (n - 1) en a h;
    }

-- ---- from new
changes_none : (n : ℕ) (keys : List ℕ) → changes n keys 0 ≡ 0
unfolding changes
changes_none n keys = refl

changes_suc : (n : ℕ) (keys : List ℕ) (t : ℕ) → changes n keys (suc t) ≡ cond (eqb (key_at n keys (t % length keys)) (key_at n keys ((t + 1) % length keys))) 0 1 + changes n keys t
unfolding changes
changes_suc n keys t = refl

pub changes_more : (n : ℕ) (keys : List ℕ) (t : ℕ) → changes n keys (t + 1) ≡ cond (eqb (key_at n keys (t % length keys)) (key_at n keys ((t + 1) % length keys))) 0 1 + changes n keys t
changes_more n keys t = ap (λ x. changes n keys x) (add-one t) ∙ changes_suc n keys t

pub changes_most : (n : ℕ) (keys : List ℕ) (t : ℕ) → changes n keys t ≤ t
changes_most n keys zero = let e = changes_none n keys in omega arith
changes_most n keys (suc t) =
    let h = changes_most n keys t in
    let s = changes_suc n keys t in
    let b = eqb (key_at n keys (t % length keys)) (key_at n keys ((t + 1) % length keys)) in
    let one : cond b 0 1 ≤ 1 = elim b as (λ x. cond x 0 1 ≤ 1) [ true ↦ omega arith | false ↦ omega arith ] in
    omega arith

module _ (n k : ℕ) (keys : List ℕ) (e : n ≡ 2 ^ k) (l : 2 ≤ length keys) where
  -- what the keys of round t differ by
  abbrev difference : ℕ → ℕ
  difference t = bit_xor (key_at n keys (t % length keys)) (key_at n keys ((t + 1) % length keys))

  some : 0 < n
  some = let p = pow_pos k in omega arith

  pub exact_length : (r : ℕ) → length (copies_of_refreshes n keys r (first_round n keys)) ≡ n * changes n keys (r / n) + 2 * mates_above (difference (r / n)) (r % n)
  exact_length zero =
      let z = some in
      let q = quotient_small 0 n z in
      let a = ap length (copied_none n keys (first_round n keys)) in
      let b = ap (λ x. n * changes n keys x) q.0 in
      let c = ap (λ x. n * x) (changes_none n keys) in
      let d = ap (λ x. mates_above (difference (0 / n)) x) q.1 in
      let f = mates_none (difference (0 / n)) in
      omega arith
  exact_length (suc r) =
      let z = some in
      let t = r / n in
      let ih = exact_length r in
      let s = copied_length n keys r (first_round n keys) in
      let w = ap (λ (x : Round). above (key_difference x) x.pointer) (from_new n keys r z l) in
      let m = mates_more (difference t) (r % n) in
      ⊎_elim
      (λ (h : r % n + 1 < n).
      let q = quotient_stays r n h in
      let b = ap (λ x. n * changes n keys x) q.0 in
      let c = ap (λ x. mates_above (difference x) (suc r % n)) q.0 in
      let d = ap (λ x. mates_above (difference t) x) q.1 in
      omega arith)
      (λ (h : n ≤ r % n + 1).
      let q = quotient_rises r n z h in
      let lt = mod-lt r z in
      let b = ap (λ x. n * changes n keys x) q.0 in
      let c = ap (λ x. n * x) (changes_more n keys t) in
      let o = cond (eqb (key_at n keys (t % length keys)) (key_at n keys ((t + 1) % length keys))) 0 1 in
      let d = mul-add n o (changes n keys t) in
      let f = ap (λ x. mates_above (difference (suc r / n)) x) q.1 in
      let g = mates_none (difference (suc r / n)) in
      let i = round_mates n k (key_at n keys (t % length keys)) (key_at n keys ((t + 1) % length keys)) e (key_below n keys (t % length keys) z) (key_below n keys ((t + 1) % length keys) z) in
      let j : r % n + 1 ≡ n = omega arith in
      let v = ap (λ x. mates_above (difference t) x) j in
      omega arith)
      (cases_lt (r % n + 1) n)

  pub most_length : (r : ℕ) → length (copies_of_refreshes n keys r (first_round n keys)) ≤ r + n / 2
  most_length r =
      let z = some in
      let t = r / n in
      let a = exact_length r in
      let b : n * changes n keys t ≤ n * t = mul-le-mul_left n (changes_most n keys t) in
      let c = mul_comm n t in
      let d = div-add-mod' r n in
      let kp = key_below n keys (t % length keys) z in
      let kc = key_below n keys ((t + 1) % length keys) z in
      let f = mates_most k (difference t) (r % n) (xor_lt k (key_at n keys (t % length keys)) (key_at n keys ((t + 1) % length keys)) (omega arith) (omega arith)) in
      let h = ap (λ x. x / 2) e in
      omega arith

pub counted : (n : ℕ) (keys : List ℕ) (r : ℕ) → PowerOfTwo n → 2 ≤ length keys → Counted n keys r
counted n keys r p l = record { exactly = exact_length n p.0 keys p.1 l r; most = most_length n p.0 keys p.1 l r }

-- ---- all registers after writes
registers_same : (g h : Registers) → g.size ≡ h.size → g.interval ≡ h.interval → g.keys ≡ h.keys → g.round ≡ h.round → g.due ≡ h.due → g.copies ≡ h.copies → g ≡ h
registers_same g h a b c d e f =
    ap (λ x. record { size = x; interval = g.interval; keys = g.keys; round = g.round; due = g.due; copies = g.copies }) a
    ∙ ap (λ x. record { size = h.size; interval = x; keys = g.keys; round = g.round; due = g.due; copies = g.copies }) b
    ∙ ap (λ x. record { size = h.size; interval = h.interval; keys = x; round = g.round; due = g.due; copies = g.copies }) c
    ∙ ap (λ (x : Round). record { size = h.size; interval = h.interval; keys = h.keys; round = x; due = g.due; copies = g.copies }) d
    ∙ ap (λ x. record { size = h.size; interval = h.interval; keys = h.keys; round = h.round; due = x; copies = g.copies }) e
    ∙ ap (λ x. record { size = h.size; interval = h.interval; keys = h.keys; round = h.round; due = h.due; copies = x }) f

pub registers_full : (n interval : ℕ) (keys : List ℕ) (d : ℕ) → PowerOfTwo n → 1 ≤ interval → 2 ≤ length keys → after_writes d (new_registers n interval keys) ≡ registers_at n interval keys d
registers_full n interval keys d p h l =
    let g = new_registers n interval keys in
    let w = walked g d h in
    let e = zero-add d in
    let q = d / interval in
    let c = ap length w.made ∙ ap (λ x. length (copies_of_refreshes n keys (x / interval) (first_round n keys))) e ∙ exact_length n p.0 keys p.1 l q in
    registers_same (after_writes d g) (registers_at n interval keys d)
    w.size
    w.interval
    w.keys
    (w.round ∙ ap (λ x. after_refreshes n keys (x / interval) (first_round n keys)) e ∙ from_new n keys q (some n p.0 keys p.1 l) l)
    (w.due ∙ ap (λ x. x % interval) e)
    (w.copies ∙ zero-add (length (copies_of_writes d g)) ∙ c)

-- ---- the bound as a fact of one state, which each refresh keeps
pub bounded_first : (w : Round) → w.pointer ≡ 0 → Bounded w 0 0
bounded_first w z = let m = ap (λ x. mates_above (key_difference w) x) z ∙ mates_none (key_difference w) in omega arith

module _ (n : ℕ) (keys : List ℕ) (w : Round) (s : Sound n keys w) (copies q : ℕ) (h : Bounded w copies q) where
  within : (j : ℕ) → 2 * mates_above (key_difference w) j ≤ j + n / 2
  within j =
      let k = s.power.0 in
      let e = s.power.1 in
      let f = ap (λ x. x / 2) e in
      let hp = s.previous in
      let hc = s.current in
      let m = mates_most k (key_difference w) j (xor_lt k w.previous w.current (omega arith) (omega arith)) in
      omega arith

  pub bounded_most : copies ≤ q + n / 2
  bounded_most = let m = within w.pointer in omega arith

  -- before an exchange both its copies are paid
  pub bounded_two : w.pointer < pointer_mate w → copies + 2 ≤ q + 1 + n / 2
  bounded_two hm =
      let e = mate_is w w.pointer in
      let y = above_yes (key_difference w) w.pointer (omega arith) in
      let t = mates_more (key_difference w) w.pointer in
      let m = within (w.pointer + 1) in
      omega arith

  pub bounded_more : Bounded (refreshed n keys w) (copies + length (refresh_copies w)) (q + 1)
  bounded_more =
      let c = copies_length w in
      let t = mates_more (key_difference w) w.pointer in
      let a : Bounded (advanced w) (copies + length (refresh_copies w)) (q + 1) = omega arith in
      ⊎_elim
      (λ (l : w.pointer + 1 < n). subst (λ (x : Round). Bounded x (copies + length (refresh_copies w)) (q + 1)) (sym (refreshed_onward n keys w l)) a)
      (λ (l : n ≤ w.pointer + 1).
      let hr = s.pointer in
      let e : w.pointer + 1 ≡ n = omega arith in
      let f = ap (λ x. mates_above (key_difference w) x) e in
      let r = round_mates n s.power.0 w.previous w.current s.power.1 s.previous s.current in
      let b = eqb w.previous w.current in
      let one : n * cond b 0 1 ≤ n = elim b as (λ x. n * cond x 0 1 ≤ n) [ true ↦ omega arith | false ↦ omega arith ] in
      let z = mates_none (key_difference (next_round n keys w)) in
      subst (λ (x : Round). Bounded x (copies + length (refresh_copies w)) (q + 1)) (sym (refreshed_ended n keys w l)) (omega arith))
      (cases_lt (w.pointer + 1) n)

  -- the same, with the copies counted
  pub bounded_exchange : w.pointer < pointer_mate w → Bounded (refreshed n keys w) (copies + 2) (q + 1)
  bounded_exchange hm =
      subst (λ x. Bounded (refreshed n keys w) (copies + x) (q + 1)) (ap length (copies_two w hm)) bounded_more

  pub bounded_no_exchange : pointer_mate w ≤ w.pointer → Bounded (refreshed n keys w) copies (q + 1)
  bounded_no_exchange hm =
      let l = ap length (copies_none w hm) in
      let m = bounded_more in
      omega arith

pub bound_kept : (n : ℕ) (keys : List ℕ) (w : Round) (copies q : ℕ) → Sound n keys w → Bounded w copies q → BoundKept n keys w copies q
bound_kept n keys w copies q s h =
    record { more = bounded_more n keys w s copies q h; most = bounded_most n keys w s copies q h; two = bounded_two n keys w s copies q h }
