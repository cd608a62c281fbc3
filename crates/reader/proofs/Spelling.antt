-- The bytes of the requests. Requests that are spelled out are found, as they are, without a fault; and requests that are
-- found without a fault are spelled out by the bytes up to the trailer. Each by induction over the requests: the bytes of one
-- are taken off the front of what is left of the file.
use Rattle.std.proofs.Common.{◌≡◌, ℕ, zero, suc, ◌+◌, ◌-◌, ◌*◌, ◌≤◌, Bool, true, false, cond, ◌||◌, eqb, List, [], ◌∷◌, ◌++◌, length, get_or, take, drop, None, sym, refl, ap, ◌∙◌, subst, ⊎_elim, append_assoc, add-zero, arith, length-append, length-drop}
use Rattle.std.proofs.lemmas.List.{get_or-drop, drop-drop, drop_at, take_at, drop_more, drop-take, take-take, take-append-drop, length-take-le}
use Rattle.std.proofs.lemmas.Bool.{cases_Bool, eqb-true}
use Rattle.std.proofs.lemmas.Bool.Decides.{nat_tests}
use Rattle.line.specs.Words.{at16}
use Rattle.runfile.specs.Asks.{Ask, read, write, Placed, asks}
use Rattle.reader.specs.Laws.{ask_size, placed}
use Rattle.reader.specs.Reading.{ask_at, size_at, request_fault, requests_fault, requests_from}
use Rattle.runfile.specs.RunFile.{Asked, Spelled}
use Rattle.reader.proofs.Questions.{Stands, stands_none, none_stands, both_none, none_both}

-- a byte, as it stands at the front of what is left
front_byte : (f w : List ℕ) (at n i : ℕ) → drop at f ≡ w → n ≡ at + i → get_or f n 0 ≡ get_or w i 0
front_byte f w at n i h e = ap (λ (k : ℕ). get_or f k 0) e ∙ sym (get_or-drop at f i 0) ∙ ap (λ (l : List ℕ). get_or l i 0) h

-- what is found of a request that its bytes spell out
record Found (q : Ask) (f front : List ℕ) (at end : ℕ) : Type 0 where
  size : size_at f at ≡ ask_size q
  ask : ask_at f at ≡ q
  fine : request_fault f at end ≡ None
  long : length front ≡ ask_size q

found : (q : Ask) (f front rest : List ℕ) (at end : ℕ) → Asked q front → drop at f ≡ front ++ rest → at + length front ≤ end → Found q f front at end
found (read line) f front rest at end a h le =
    let lo : ℕ = a.0 in
    let hi : ℕ = a.1.0 in
    let l : length front ≡ 3 = ap length a.1.1.0 in
    let w : drop at f ≡ 114 ∷ lo ∷ hi ∷ rest = h ∙ ap (λ (b : List ℕ). b ++ rest) a.1.1.0 in
    let e0 : get_or f at 0 ≡ 114 = front_byte f (114 ∷ lo ∷ hi ∷ rest) at at 0 w (sym (add-zero at)) in
    let e1 : get_or f (at + 1) 0 ≡ lo = front_byte f (114 ∷ lo ∷ hi ∷ rest) at (at + 1) 1 w refl in
    let e2 : get_or f (at + 1 + 1) 0 ≡ hi = front_byte f (114 ∷ lo ∷ hi ∷ rest) at (at + 1 + 1) 2 w (omega arith) in
    let s : size_at f at ≡ 3 = ap (λ (x : ℕ). cond (eqb x 114) 3 19) e0 in
    let n : at16 f (at + 1) ≡ line = ap (λ (x : ℕ). x + get_or f (at + 1 + 1) 0 * 256) e1 ∙ ap (λ (x : ℕ). lo + x * 256) e2 ∙ sym a.1.1.1 in
    record {
      size = s;
      ask = ap (λ (x : ℕ). cond (eqb x 114) (read (at16 f (at + 1))) (write (at16 f (at + 1)) (take 16 (drop (at + 3) f)))) e0 ∙ ap read n;
      fine = stands_none f at end (record { before = omega arith; letter = ap (λ (x : ℕ). eqb x 114 || eqb x 119) e0; within = omega arith });
      long = l;
    }
found (write line load) f front rest at end a h le =
    let lo : ℕ = a.0 in
    let hi : ℕ = a.1.0 in
    let ll : length load ≡ 16 = a.1.1.2 in
    let l : length front ≡ 19 = ap length a.1.1.0 ∙ ap (λ (x : ℕ). suc (suc (suc x))) ll in
    let w : drop at f ≡ 119 ∷ lo ∷ hi ∷ (load ++ rest) = h ∙ ap (λ (b : List ℕ). b ++ rest) a.1.1.0 in
    let e0 : get_or f at 0 ≡ 119 = front_byte f (119 ∷ lo ∷ hi ∷ (load ++ rest)) at at 0 w (sym (add-zero at)) in
    let e1 : get_or f (at + 1) 0 ≡ lo = front_byte f (119 ∷ lo ∷ hi ∷ (load ++ rest)) at (at + 1) 1 w refl in
    let e2 : get_or f (at + 1 + 1) 0 ≡ hi = front_byte f (119 ∷ lo ∷ hi ∷ (load ++ rest)) at (at + 1 + 1) 2 w (omega arith) in
    let s : size_at f at ≡ 19 = ap (λ (x : ℕ). cond (eqb x 114) 3 19) e0 in
    let n : at16 f (at + 1) ≡ line = ap (λ (x : ℕ). x + get_or f (at + 1 + 1) 0 * 256) e1 ∙ ap (λ (x : ℕ). lo + x * 256) e2 ∙ sym a.1.1.1 in
    let d : drop (at + 3) f ≡ load ++ rest = sym (drop-drop 3 at f) ∙ ap (drop 3) w in
    let t : take 16 (drop (at + 3) f) ≡ load = ap (take 16) d ∙ take_at load rest 16 ll in
    record {
      size = s;
      ask =
          ap (λ (x : ℕ). cond (eqb x 114) (read (at16 f (at + 1))) (write (at16 f (at + 1)) (take 16 (drop (at + 3) f)))) e0
          ∙ ap (λ (x : ℕ). write x (take 16 (drop (at + 3) f))) n ∙ ap (write line) t;
      fine = stands_none f at end (record { before = omega arith; letter = ap (λ (x : ℕ). eqb x 114 || eqb x 119) e0; within = omega arith });
      long = l;
    }

-- spelled out: found without a fault, each at its place
pub spelled_found : (qs : List Ask) (f bs rest : List ℕ) (at end : ℕ) → Spelled qs bs → drop at f ≡ bs ++ rest → end ≡ at + length bs
    → (requests_fault f at end (length qs) ≡ None) × (requests_from f at (length qs) ≡ placed at qs)
spelled_found [] f bs rest at end sp h e =
    (let e' : at ≡ end = omega (arith, ap length sp) in grind (arith, nat_tests), refl)
spelled_found (q ∷ qs) f bs rest at end sp h e =
    let front : List ℕ = sp.0 in
    let tail : List ℕ = sp.1.0 in
    let lb : length bs ≡ length front + length tail = ap length sp.1.1.0 ∙ length-append front tail in
    let w : drop at f ≡ front ++ (tail ++ rest) = h ∙ ap (λ (b : List ℕ). b ++ rest) sp.1.1.0 ∙ append_assoc front tail rest in
    let x = found q f front (tail ++ rest) at end sp.1.1.1 w (omega arith) in
    let to : at + size_at f at ≡ at + ask_size q = ap (λ (n : ℕ). at + n) x.size in
    let v : drop (at + ask_size q) f ≡ tail ++ rest =
    sym (drop-drop (ask_size q) at f) ∙ ap (drop (ask_size q)) w ∙ drop_at front (tail ++ rest) (ask_size q) x.long in
    let k = spelled_found qs f tail rest (at + ask_size q) end sp.1.1.2 v (omega (arith, x.long)) in (
      both_none _ _ x.fine (ap (λ (n : ℕ). requests_fault f n end (length qs)) to ∙ k.0),
      ap (λ (y : Ask). record { place = at; ask = y } ∷ requests_from f (at + size_at f at) (length qs)) x.ask
          ∙ ap (λ (n : ℕ). record { place = at; ask = q } ∷ requests_from f n (length qs)) to
          ∙ ap (λ (z : List Placed). record { place = at; ask = q } ∷ z) k.1,
    )

-- a list, from a place on: so many elements, and then the rest
pub take_both : (n m : ℕ) (xs : List ℕ) → take (n + m) xs ≡ take n xs ++ take m (drop n xs)
take_both n m xs =
    sym (take-append-drop n (take (n + m) xs))
    ∙ ap (λ (z : List ℕ). z ++ drop n (take (n + m) xs)) (take-take n (n + m) xs (omega arith))
    ∙ ap (λ (z : List ℕ). take n xs ++ z) (drop-take n m xs)

three : (f : List ℕ) (at : ℕ) → at + 3 ≤ length f → drop at f ≡ get_or f at 0 ∷ get_or f (at + 1) 0 ∷ get_or f (at + 1 + 1) 0 ∷ drop (at + 3) f
three f at le =
    drop_more f at 0 (omega arith)
    ∙ ap (λ (z : List ℕ). get_or f at 0 ∷ z) (drop_more f (at + 1) 0 (omega arith))
    ∙ ap (λ (z : List ℕ). get_or f at 0 ∷ get_or f (at + 1) 0 ∷ z) (drop_more f (at + 1 + 1) 0 (omega arith))
    ∙ ap (λ (k : ℕ). get_or f at 0 ∷ get_or f (at + 1) 0 ∷ get_or f (at + 1 + 1) 0 ∷ drop k f) (omega arith)

-- the bytes of a request that is found without a fault spell it out
stands_asked : (f : List ℕ) (at end : ℕ) → end ≤ length f → Stands f at end → Asked (ask_at f at) (take (size_at f at) (drop at f))
stands_asked f at end le h =
    ⊎_elim
    (λ (e : eqb (get_or f at 0) 114 ≡ true).
    let l : get_or f at 0 ≡ 114 = eqb-true _ _ e in
    let s : size_at f at ≡ 3 = ap (λ (b : Bool). cond b 3 19) e in
    let q : ask_at f at ≡ read (at16 f (at + 1)) = ap (λ (b : Bool). cond b (read (at16 f (at + 1))) (write (at16 f (at + 1)) (take 16 (drop (at + 3) f)))) e in
    let w = three f at (omega (arith, h.within)) in
    let t : take (size_at f at) (drop at f) ≡ 114 ∷ get_or f (at + 1) 0 ∷ get_or f (at + 1 + 1) 0 ∷ [] =
    ap (λ (n : ℕ). take n (drop at f)) s ∙ ap (take 3) w ∙ ap (λ (x : ℕ). x ∷ get_or f (at + 1) 0 ∷ get_or f (at + 1 + 1) 0 ∷ []) l in
    subst (λ (x : Ask). Asked x (take (size_at f at) (drop at f))) (sym q) (get_or f (at + 1) 0, (get_or f (at + 1 + 1) 0, (t, refl))))
    (λ (e : eqb (get_or f at 0) 114 ≡ false).
    let l : get_or f at 0 ≡ 119 = eqb-true _ _ (sym (ap (λ (b : Bool). b || eqb (get_or f at 0) 119) e) ∙ h.letter) in
    let s : size_at f at ≡ 19 = ap (λ (b : Bool). cond b 3 19) e in
    let q : ask_at f at ≡ write (at16 f (at + 1)) (take 16 (drop (at + 3) f)) =
    ap (λ (b : Bool). cond b (read (at16 f (at + 1))) (write (at16 f (at + 1)) (take 16 (drop (at + 3) f)))) e in
    let w = three f at (omega (arith, h.within)) in
    let t : take (size_at f at) (drop at f) ≡ 119 ∷ get_or f (at + 1) 0 ∷ get_or f (at + 1 + 1) 0 ∷ take 16 (drop (at + 3) f) =
    ap (λ (n : ℕ). take n (drop at f)) s ∙ ap (take 19) w ∙ ap (λ (x : ℕ). x ∷ get_or f (at + 1) 0 ∷ get_or f (at + 1 + 1) 0 ∷ take 16 (drop (at + 3) f)) l in
    let n : length (take 16 (drop (at + 3) f)) ≡ 16 = length-take-le 16 (drop (at + 3) f) (omega (arith, length-drop (at + 3) f, h.within)) in
    subst (λ (x : Ask). Asked x (take (size_at f at) (drop at f))) (sym q) (get_or f (at + 1) 0, (get_or f (at + 1 + 1) 0, (t, refl, n))))
    (cases_Bool (eqb (get_or f at 0) 114))

-- found without a fault: spelled out, and as many as were counted
pub found_spelled : (k : ℕ) (f : List ℕ) (at end : ℕ) → end ≤ length f → at ≤ end → requests_fault f at end k ≡ None
    → Spelled (asks (requests_from f at k)) (take (end - at) (drop at f)) × (length (asks (requests_from f at k)) ≡ k)
found_spelled zero f at end le lt h =
    let e : at ≡ end = grind (arith, nat_tests) in
    let z : end - at ≡ 0 = omega arith in
    (ap (λ (n : ℕ). take n (drop at f)) z, refl)
found_spelled (suc k) f at end le lt h =
    let p = none_both _ _ h in
    let s = none_stands f at end p.0 in
    let n : ℕ = size_at f at in
    let r = found_spelled k f (at + n) end le s.within p.1 in
    let e : end - at ≡ n + (end - (at + n)) = omega (arith, s.within) in
    let t : take (end - at) (drop at f) ≡ take n (drop at f) ++ take (end - (at + n)) (drop (at + n) f) =
    ap (λ (m : ℕ). take m (drop at f)) e ∙ take_both n (end - (at + n)) (drop at f)
    ∙ ap (λ (z : List ℕ). take n (drop at f) ++ take (end - (at + n)) z) (drop-drop n at f) in
    ((take n (drop at f), (take (end - (at + n)) (drop (at + n) f), (t, stands_asked f at end le s, r.0))), ap suc r.1)
