-- A numeral is read as what it spells, and what is read is what it spells. By recursion over the digits; a number only grows with its digits.
use Rattle.std.proofs.Common.{◌≡◌, ℕ, ◌≤◌, Bool, true, false, cond, ◌&&◌, eqb, leb, List, [], ◌∷◌, ℤ, pos, neg_ℤ, Ok, Err, Result, sym, refl, ap, ◌∙◌, inl, inr, ⊎_elim, arith, ne_eqb, eqb-true, le-leb, leb-true}
use Rattle.compose.specs.declared.refusal.Wrong.{Wrong}
use Rattle.compose.specs.declared.refusal.Wrong.TheVariants.{NotANumber, OutOfRange}
use Rattle.compose.specs.Numerals.{is_digit, longer, number_after, number, positive, negative, integer}
use Rattle.compose.specs.Says.{Digits, value_after, Numeral, Integer}

pub ok_err : {X E : Type 0} (x : X) (e : E) → ◌≡◌ {A = Result X E} (Err e) (Ok x) → ⊥
ok_err x e h = let z : ◌≡◌ {A = ℕ} 0 1 = cc in omega arith

pub ok_ok : {X E : Type 0} (x y : X) → ◌≡◌ {A = Result X E} (Ok x) (Ok y) → x ≡ y
ok_ok x y h = cc

digit_true : (b : ℕ) → 48 ≤ b → b ≤ 57 → is_digit b ≡ true
digit_true b h k = ap (λ (t : Bool). t && leb b 57) (le-leb 48 b h) ∙ le-leb b 57 k

-- what the rest of the digits gives
abbrev Read : ℕ → ℕ → List ℕ → ℕ → Type 0
Read g v w n = Digits w × (n ≡ value_after v w) × (n ≤ g)

both_true : (a b : Bool) → (a && b) ≡ true → (a ≡ true) × (b ≡ true)
both_true true b h = (refl, h)
both_true false b h = let z : ◌≡◌ {A = ℕ} 0 1 = cc in absurd (omega arith)

by_size : (g v b : ℕ) (bs : List ℕ) (n : ℕ) → ((v' : ℕ) → v' ≤ g → number_after g v' bs ≡ Ok n → Read g v' bs n) → 48 ≤ b → b ≤ 57
    → (t : Bool) → leb (longer v b) g ≡ t → cond t (number_after g (longer v b) bs) (Err OutOfRange) ≡ Ok n → Read g v (b ∷ bs) n
by_size g v b bs n ih lo hi true e h =
    let r = ih (longer v b) (leb-true (longer v b) g e) h in
    ((lo, hi, r.0), r.1, r.2)
by_size g v b bs n ih lo hi false e h = absurd (ok_err n OutOfRange h)

by_digit : (g v b : ℕ) (bs : List ℕ) (n : ℕ) → ((v' : ℕ) → v' ≤ g → number_after g v' bs ≡ Ok n → Read g v' bs n)
    → (t : Bool) → is_digit b ≡ t → cond t (cond (leb (longer v b) g) (number_after g (longer v b) bs) (Err OutOfRange)) (Err NotANumber) ≡ Ok n → Read g v (b ∷ bs) n
by_digit g v b bs n ih true e h =
    let d = both_true (leb 48 b) (leb b 57) e in
    by_size g v b bs n ih (leb-true 48 b d.0) (leb-true b 57 d.1) (leb (longer v b) g) refl h
by_digit g v b bs n ih false e h = absurd (ok_err n NotANumber h)

number_sound : (g v : ℕ) (w : List ℕ) (n : ℕ) → v ≤ g → number_after g v w ≡ Ok n → Read g v w n
number_sound g v [] n le h = let e : v ≡ n = ok_ok v n h in (tt, sym e, omega arith)
number_sound g v (b ∷ bs) n le h = by_digit g v b bs n (λ v' le' h'. number_sound g v' bs n le' h') (is_digit b) refl h

value_ge : (v : ℕ) (bs : List ℕ) → v ≤ value_after v bs
value_ge v [] = omega arith
value_ge v (b ∷ bs) = let h = value_ge (longer v b) bs in omega arith

number_complete : (g v : ℕ) (w : List ℕ) (n : ℕ) → Digits w → n ≡ value_after v w → n ≤ g → number_after g v w ≡ Ok n
number_complete g v [] n d e le = ap {B = Result ℕ Wrong} Ok (sym e)
number_complete g v (b ∷ bs) n d e le =
    let ge = value_ge (longer v b) bs in
    let fit : longer v b ≤ g = omega arith in
    ap (λ (t : Bool). cond t (cond (leb (longer v b) g) (number_after g (longer v b) bs) (Err OutOfRange)) (Err NotANumber)) (digit_true b d.0 d.1)
    ∙ ap (λ (t : Bool). cond t (number_after g (longer v b) bs) (Err OutOfRange)) (le-leb (longer v b) g fit)
    ∙ number_complete g (longer v b) bs n d.2 e le

pub numeral_sound : (g : ℕ) (w : List ℕ) (n : ℕ) → number g w ≡ Ok n → Numeral g w n
numeral_sound g [] n h = absurd (ok_err n NotANumber h)
numeral_sound g (b ∷ bs) n h =
    let r = number_sound g 0 (b ∷ bs) n (omega arith) h in
    record { some = omega arith; digits = r.0; value = r.1; bound = r.2 }

pub numeral_complete : (g : ℕ) (w : List ℕ) (n : ℕ) → Numeral g w n → number g w ≡ Ok n
numeral_complete g [] n x = let z = x.some in absurd (omega arith)
numeral_complete g (b ∷ bs) n x = number_complete g 0 (b ∷ bs) n x.digits x.value x.bound

-- with a minus sign and without
positive_ok : (r : Result ℕ Wrong) (z : ℤ) → positive r ≡ Ok z → (n : ℕ) × ((r ≡ Ok n) × (z ≡ pos n))
positive_ok (Ok n) z h = (n, (refl, sym (ok_ok (pos n) z h)))
positive_ok (Err e) z h = absurd (ok_err z e h)

negative_ok : (r : Result ℕ Wrong) (z : ℤ) → negative r ≡ Ok z → (n : ℕ) × ((r ≡ Ok n) × (z ≡ neg_ℤ (pos n)))
negative_ok (Ok n) z h = (n, (refl, sym (ok_ok (neg_ℤ (pos n)) z h)))
negative_ok (Err e) z h = absurd (ok_err z e h)

by_sign : (b : ℕ) (bs : List ℕ) (z : ℤ) (t : Bool) → eqb b 45 ≡ t → cond t (negative (number 2147483648 bs)) (positive (number 2147483647 (b ∷ bs))) ≡ Ok z → Integer (b ∷ bs) z
by_sign b bs z true e h =
    let r = negative_ok (number 2147483648 bs) z h in
    inr (bs, (r.0, (ap (λ (x : ℕ). x ∷ bs) (eqb-true b 45 e), numeral_sound 2147483648 bs r.0 r.1.0, r.1.1)))
by_sign b bs z false e h =
    let r = positive_ok (number 2147483647 (b ∷ bs)) z h in
    inl (r.0, (numeral_sound 2147483647 (b ∷ bs) r.0 r.1.0, r.1.1))

pub integer_sound : (w : List ℕ) (z : ℤ) → integer w ≡ Ok z → Integer w z
integer_sound [] z h = absurd (ok_err z NotANumber h)
integer_sound (b ∷ bs) z h = by_sign b bs z (eqb b 45) refl h

plain_complete : (w : List ℕ) (n : ℕ) → Numeral 2147483647 w n → integer w ≡ Ok (pos n)
plain_complete [] n x = let z = x.some in absurd (omega arith)
plain_complete (b ∷ bs) n x =
    let lo : 48 ≤ b = x.digits.0 in
    ap (λ (t : Bool). cond t (negative (number 2147483648 bs)) (positive (number 2147483647 (b ∷ bs)))) (ne_eqb b 45 (λ e. omega arith))
    ∙ ap positive (numeral_complete 2147483647 (b ∷ bs) n x)

pub integer_complete : (w : List ℕ) (z : ℤ) → Integer w z → integer w ≡ Ok z
integer_complete w z x =
    ⊎_elim
    (λ (p : (n : ℕ) × (Numeral 2147483647 w n × (z ≡ pos n))). plain_complete w p.0 p.1.0 ∙ ap {B = Result ℤ Wrong} Ok (sym p.1.1))
    (λ (p : (ds : List ℕ) × ((n : ℕ) × ((w ≡ 45 ∷ ds) × Numeral 2147483648 ds n × (z ≡ neg_ℤ (pos n))))).
    ap integer p.1.1.0 ∙ ap negative (numeral_complete 2147483648 p.0 p.1.0 p.1.1.1) ∙ ap {B = Result ℤ Wrong} Ok (sym p.1.1.2))
    x
