-- Accepted writes. A write only raises the count of writes that are due, or brings a refresh and sets it to 0. So after d writes that count
-- is the remainder of what was due and d by the interval, and the refreshes are the quotient, by induction on d.
use Rattle.std.proofs.Common.{◌≡◌, ℕ, zero, suc, ◌+◌, ◌/◌, ◌%◌, ◌<◌, ◌≤◌, Bool, true, false, cond, List, [], ◌++◌, length, sym, refl, ap, ◌∙◌, subst, ⊎_elim, add-zero, add-suc, add-one, arith, length-append}
use Rattle.std.proofs.lemmas.Bool.{cases_lt, lt-ltb, le-ltb}
use Rattle.std.proofs.lemmas.List.{append-nil, append_assoc}
use Rattle.refresh.specs.declared.round.Round.{Round}
use Rattle.line.specs.Copies.{Copy}
use Rattle.refresh.specs.Powers.{PowerOfTwo}
use Rattle.refresh.specs.Refresh.{pointer_mate, exchange, refreshed, refresh_copies, after_refreshes, copies_of_refreshes, Registers, new_registers, waits, write_copies, after_write, after_writes, copies_of_writes}
use Rattle.refresh.specs.Theorems.{SoundRegisters, Walked}
use Rattle.refresh.proofs.Refreshes.{copies_two, copies_none, key_below, refreshed_sound}
use Rattle.refresh.proofs.Quotients.{quotient_stays, quotient_rises, quotient_small}
use Rattle.refresh.proofs.Walks.{after_none, after_more, copied_none, copied_more}

-- ---- one write
-- one write more is due
abbrev pub noted : Registers → Registers
noted g = record { size = g.size; interval = g.interval; keys = g.keys; round = g.round; due = g.due + 1; copies = g.copies }

-- a refresh was done, with so many copies in all
abbrev pub turned : Registers → Round → ℕ → Registers
turned g w copies = record { size = g.size; interval = g.interval; keys = g.keys; round = w; due = 0; copies = copies }

abbrev by_test : Registers → Bool → List Copy → Registers
by_test g b ks =
    record {
      size = g.size;
      interval = g.interval;
      keys = g.keys;
      round = cond b g.round (refreshed g.size g.keys g.round);
      due = cond b (g.due + 1) 0;
      copies = g.copies + length ks;
    }

after_by_test : (g : Registers) (b : Bool) (ks : List Copy) → waits g ≡ b → write_copies g ≡ ks → after_write g ≡ by_test g b ks
unfolding after_write
after_by_test g b ks e f = ap (λ x. by_test g x (write_copies g)) e ∙ ap (λ x. by_test g b x) f

pub write_waits : (g : Registers) → g.due + 1 < g.interval → (after_write g ≡ noted g) × (write_copies g ≡ [])
unfolding write_copies
write_waits g h =
    let e : waits g ≡ true = lt-ltb (g.due + 1) g.interval h in
    let f : write_copies g ≡ [] = ap (λ b. cond b [] (refresh_copies g.round)) e in (
      after_by_test g true [] e f
          ∙ ap (λ n. record { size = g.size; interval = g.interval; keys = g.keys; round = g.round; due = g.due + 1; copies = n }) (add-zero g.copies),
      f,
    )

pub write_refreshes : (g : Registers) → g.interval ≤ g.due + 1
    → (after_write g ≡ turned g (refreshed g.size g.keys g.round) (g.copies + length (refresh_copies g.round))) × (write_copies g ≡ refresh_copies g.round)
unfolding write_copies
write_refreshes g h =
    let e : waits g ≡ false = le-ltb (g.due + 1) g.interval h in
    let f : write_copies g ≡ refresh_copies g.round = ap (λ b. cond b [] (refresh_copies g.round)) e in
    (after_by_test g false (refresh_copies g.round) e f, f)

-- a refresh that exchanges nothing, and one that exchanges two lines
pub write_no_exchange : (g : Registers) → g.interval ≤ g.due + 1 → pointer_mate g.round ≤ g.round.pointer
    → (after_write g ≡ turned g (refreshed g.size g.keys g.round) g.copies) × (write_copies g ≡ [])
write_no_exchange g h m =
    let s = write_refreshes g h in
    let e = copies_none g.round m in
    (s.0 ∙ ap (λ c. turned g (refreshed g.size g.keys g.round) c) (ap (λ ks. g.copies + length ks) e ∙ add-zero g.copies), s.1 ∙ e)

pub write_exchanges : (g : Registers) → g.interval ≤ g.due + 1 → g.round.pointer < pointer_mate g.round
    → (after_write g ≡ turned g (refreshed g.size g.keys g.round) (g.copies + 2)) × (write_copies g ≡ exchange g.round)
write_exchanges g h m =
    let s = write_refreshes g h in
    let e = copies_two g.round m in
    (s.0 ∙ ap (λ ks. turned g (refreshed g.size g.keys g.round) (g.copies + length ks)) e, s.1 ∙ e)

-- ---- many writes
pub after_no_writes : (g : Registers) → after_writes 0 g ≡ g
unfolding after_writes
after_no_writes g = refl

pub after_more_writes : (d : ℕ) (g : Registers) → after_writes (suc d) g ≡ after_write (after_writes d g)
unfolding after_writes
after_more_writes d g = refl

pub no_writes_copies : (g : Registers) → copies_of_writes 0 g ≡ []
unfolding copies_of_writes
no_writes_copies g = refl

pub more_writes_copies : (d : ℕ) (g : Registers) → copies_of_writes (suc d) g ≡ copies_of_writes d g ++ write_copies (after_writes d g)
unfolding copies_of_writes
more_writes_copies d g = refl

-- the same, from the first write on
pub after_first_write : (d : ℕ) (g : Registers) → after_writes (suc d) g ≡ after_writes d (after_write g)
after_first_write zero g = after_more_writes 0 g ∙ ap after_write (after_no_writes g) ∙ sym (after_no_writes (after_write g))
after_first_write (suc d) g = after_more_writes (suc d) g ∙ ap after_write (after_first_write d g) ∙ sym (after_more_writes d (after_write g))

pub first_write_copies : (d : ℕ) (g : Registers) → copies_of_writes (suc d) g ≡ write_copies g ++ copies_of_writes d (after_write g)
first_write_copies zero g =
    more_writes_copies 0 g
    ∙ ap (λ ks. ks ++ write_copies (after_writes 0 g)) (no_writes_copies g)
    ∙ ap write_copies (after_no_writes g)
    ∙ sym (append-nil (write_copies g))
    ∙ ap (λ ks. write_copies g ++ ks) (sym (no_writes_copies (after_write g)))
first_write_copies (suc d) g =
    more_writes_copies (suc d) g
    ∙ ap (λ ks. ks ++ write_copies (after_writes (suc d) g)) (first_write_copies d g)
    ∙ append_assoc (write_copies g) (copies_of_writes d (after_write g)) (write_copies (after_writes (suc d) g))
    ∙ ap (λ x. write_copies g ++ (copies_of_writes d (after_write g) ++ write_copies x)) (after_first_write d g)
    ∙ ap (λ ks. write_copies g ++ ks) (sym (more_writes_copies d (after_write g)))

-- ---- sound registers
pub new_sound : (n interval : ℕ) (keys : List ℕ) → PowerOfTwo n → 0 < n → 1 ≤ interval → 2 ≤ length keys → SoundRegisters (new_registers n interval keys)
new_sound n interval keys p z h l =
    record {
      round = record { power = p; previous = key_below n keys 0 z; current = key_below n keys 1 z; turn = l; pointer = z };
      due = h;
    }

pub write_sound : (g : Registers) → SoundRegisters g → SoundRegisters (after_write g)
write_sound g s =
    let due = s.due in
    ⊎_elim
    (λ (h : g.due + 1 < g.interval).
    subst (λ (x : Registers). SoundRegisters x) (sym (write_waits g h).0) (record { round = s.round; due = h }))
    (λ (h : g.interval ≤ g.due + 1).
    subst (λ (x : Registers). SoundRegisters x) (sym (write_refreshes g h).0)
    (record { round = refreshed_sound g.size g.keys g.round s.round; due = omega arith }))
    (cases_lt (g.due + 1) g.interval)

pub writes_sound : (g : Registers) (d : ℕ) → SoundRegisters g → SoundRegisters (after_writes d g)
writes_sound g zero s = subst (λ (x : Registers). SoundRegisters x) (sym (after_no_writes g)) s
writes_sound g (suc d) s =
    subst (λ (x : Registers). SoundRegisters x) (sym (after_more_writes d g)) (write_sound (after_writes d g) (writes_sound g d s))

-- ---- refreshes are writes div the interval
walked_more : (g : Registers) (d : ℕ) (h : Registers) (ks : List Copy) → g.due < g.interval → Walked g d h ks → Walked g (suc d) (after_write h) (ks ++ write_copies h)
walked_more g d h ks l w =
    let I = g.interval in
    let n = g.size in
    let keys = g.keys in
    let r = g.due + d in
    let z : 0 < I = omega arith in
    let es : g.due + suc d ≡ suc r = add-suc g.due d in
    let ed = w.due in
    let ei = w.interval in
    let total : (xs : List Copy) (m : ℕ) → h.copies + length xs ≡ m → m ≡ g.copies + length (ks ++ xs) =
    λ xs m e. (let a = length-append ks xs in let c = w.copies in omega arith) in
    ⊎_elim
    (λ (k : r % I + 1 < I).
    let q = quotient_stays r I k in
    let eq : (g.due + suc d) / I ≡ r / I = ap (λ x. x / I) es ∙ q.0 in
    let s = write_waits h (omega arith) in
    subst (λ (x : Registers). Walked g (suc d) x (ks ++ write_copies h)) (sym s.0)
    (subst (λ xs. Walked g (suc d) (noted h) (ks ++ xs)) (sym s.1)
    (record {
      size = w.size;
      interval = w.interval;
      keys = w.keys;
      round = w.round ∙ ap (λ x. after_refreshes n keys x g.round) (sym eq);
      due = ap (λ x. x + 1) ed ∙ sym (ap (λ x. x % I) es ∙ q.1);
      made = append-nil ks ∙ w.made ∙ ap (λ x. copies_of_refreshes n keys x g.round) (sym eq);
      copies = total [] h.copies (add-zero h.copies);
    })))
    (λ (k : I ≤ r % I + 1).
    let q = quotient_rises r I z k in
    let eq : (g.due + suc d) / I ≡ suc (r / I) = ap (λ x. x / I) es ∙ q.0 ∙ add-one (r / I) in
    let s = write_refreshes h (omega arith) in
    let er : refreshed h.size h.keys h.round ≡ after_refreshes n keys (suc (r / I)) g.round =
    ap (λ x. refreshed x h.keys h.round) w.size
    ∙ ap (λ x. refreshed n x h.round) w.keys
    ∙ ap (λ (x : Round). refreshed n keys x) w.round
    ∙ sym (after_more n keys (r / I) g.round) in
    let ek : ks ++ refresh_copies h.round ≡ copies_of_refreshes n keys (suc (r / I)) g.round =
    ap (λ xs. xs ++ refresh_copies h.round) w.made
    ∙ ap (λ (x : Round). copies_of_refreshes n keys (r / I) g.round ++ refresh_copies x) w.round
    ∙ sym (copied_more n keys (r / I) g.round) in
    subst (λ (x : Registers). Walked g (suc d) x (ks ++ write_copies h)) (sym s.0)
    (subst (λ xs. Walked g (suc d) (turned h (refreshed h.size h.keys h.round) (h.copies + length (refresh_copies h.round))) (ks ++ xs)) (sym s.1)
    (record {
      size = w.size;
      interval = w.interval;
      keys = w.keys;
      round = er ∙ ap (λ x. after_refreshes n keys x g.round) (sym eq);
      due = sym (ap (λ x. x % I) es ∙ q.1);
      made = ek ∙ ap (λ x. copies_of_refreshes n keys x g.round) (sym eq);
      copies = total (refresh_copies h.round) (h.copies + length (refresh_copies h.round)) refl;
    })))
    (cases_lt (r % I + 1) I)

pub walked : (g : Registers) (d : ℕ) → g.due < g.interval → Walked g d (after_writes d g) (copies_of_writes d g)
walked g zero l =
    let I = g.interval in
    let q = quotient_small g.due I l in
    let ez = add-zero g.due in
    let eq : (g.due + 0) / I ≡ 0 = ap (λ x. x / I) ez ∙ q.0 in
    subst (λ (x : Registers). Walked g 0 x (copies_of_writes 0 g)) (sym (after_no_writes g))
    (subst (λ ks. Walked g 0 g ks) (sym (no_writes_copies g))
    (record {
      size = refl;
      interval = refl;
      keys = refl;
      round = sym (ap (λ x. after_refreshes g.size g.keys x g.round) eq ∙ after_none g.size g.keys g.round);
      due = sym (ap (λ x. x % I) ez ∙ q.1);
      made = sym (ap (λ x. copies_of_refreshes g.size g.keys x g.round) eq ∙ copied_none g.size g.keys g.round);
      copies = sym (add-zero g.copies);
    }))
walked g (suc d) l =
    subst (λ (x : Registers). Walked g (suc d) x (copies_of_writes (suc d) g)) (sym (after_more_writes d g))
    (subst (λ ks. Walked g (suc d) (after_write (after_writes d g)) ks) (sym (more_writes_copies d g))
    (walked_more g d (after_writes d g) (copies_of_writes d g) l (walked g d l)))
