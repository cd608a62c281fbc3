-- The lines of a byte medium. Writing one chunk of a list of bytes changes that one value of its chunks: by induction over the chunks,
-- since the part that is written lies in the first chunk or past it. A count more is one more in the sum.
use Rattle.std.proofs.Common.{◌≡◌, ℕ, zero, suc, ◌+◌, ◌-◌, ◌*◌, ◌<◌, ◌≤◌, Bool, true, false, cond, eqb, List, [], ◌∷◌, ◌++◌, length, get_or, take, drop, set, replicate, is_err, Ok, Err, sum, Result, sym, refl, ap, ◌∙◌, mul-le-mul_right, suc-mul, zero-mul, arith, length-drop, eq-eqb, ne_eqb, eqb-true}
use borrow.Rule.Slice.PartMut.{put_mid, same_len_mid}
use Rattle.std.proofs.lemmas.List.{take_at, drop_at, drop-append-le, drop-take, drop-drop, length-take-le, length-set}
use Rattle.std.proofs.lemmas.Slice.{take-put_mid_below}
use Rattle.std.proofs.lemmas.List.Sums.{sum_by-set, get_or-le-sum_by, sum_by-cons}
use Rattle.line.specs.declared.denial.Denial.{Denial}
use Rattle.medium.specs.Array.{Array, Wrote, fetched}
use Rattle.medium.proofs.Arrays.{fetched_at, wrote_accepted}
use Rattle.media.specs.Cells.{MadeAs}
use Rattle.media.specs.Bytes.{byte_survey, chunks, lines_in, byte_array, laid}

-- ---- chunks
-- the part begins in the first chunk
here : {V : Type 0} (get : List ℕ → V) (w n a : ℕ) (bs xs : List ℕ) → a ≡ 0 → length xs ≡ w
    → chunks get w (suc n) (put_mid a w bs xs) ≡ get xs ∷ chunks get w n (drop w bs)
here get w n a bs xs z e =
    simp z (ap (λ (l : List ℕ). get l ∷ chunks get w n (drop w (xs ++ drop w bs))) (take_at xs (drop w bs) w e)
    ∙ ap (λ (l : List ℕ). get xs ∷ chunks get w n l) (drop_at xs (drop w bs) w e))

-- what is left after the first chunk
past : (w a : ℕ) (bs xs : List ℕ) → w + a ≤ length bs → drop w (put_mid (w + a) w bs xs) ≡ put_mid a w (drop w bs) xs
past w a bs xs h =
    let n : length (take (w + a) bs) ≡ w + a = length-take-le (w + a) bs h in
    drop-append-le w (take (w + a) bs) _ (omega arith)
    ∙ ap (λ (l : List ℕ). l ++ (xs ++ drop w (drop (w + a) bs))) (drop-take w a bs)
    ∙ ap (λ (l : List ℕ). take a (drop w bs) ++ (xs ++ drop w l)) (sym (drop-drop a w bs))

chunks_put : {V : Type 0} (get : List ℕ → V) (w n i a : ℕ) (bs xs : List ℕ)
    → a ≡ i * w → i < n → length bs ≡ n * w → length xs ≡ w
    → chunks get w n (put_mid a w bs xs) ≡ set (chunks get w n bs) i (get xs)
chunks_put get w zero i a bs xs ea lt eb ex = refl
chunks_put get w (suc n) zero a bs xs ea lt eb ex =
    here get w n a bs xs (ea ∙ zero-mul w) ex
chunks_put get w (suc n) (suc i) a bs xs ea lt eb ex =
    let s = suc-mul i w in
    let m = suc-mul n w in
    let sl : suc i ≤ n = omega arith in
    let le : suc i * w ≤ n * w = mul-le-mul_right w sl in
    let ea' : a ≡ w + i * w = omega arith in
    let d = length-drop w bs in
    simp ea'
    (ap (λ (l : List ℕ). get l ∷ chunks get w n (drop w (put_mid (w + i * w) w bs xs))) (take-put_mid_below (w + i * w) w bs xs w (omega arith) (omega arith))
    ∙ ap (λ (l : List ℕ). get (take w bs) ∷ chunks get w n l) (past w (i * w) bs xs (omega arith))
    ∙ ap (λ (l : List _). get (take w bs) ∷ l) (chunks_put get w n i (i * w) (drop w bs) xs refl (omega arith) (omega arith) ex))

length_chunks : {V : Type 0} (get : List ℕ → V) (w n : ℕ) (bs : List ℕ) → length (chunks get w n bs) ≡ n
length_chunks get w zero bs = refl
length_chunks get w (suc n) bs = ap suc (length_chunks get w n (drop w bs))

getD_chunks : {V : Type 0} (get : List ℕ → V) (w n i : ℕ) (bs : List ℕ) (d : V) → i < n
    → get_or (chunks get w n bs) i d ≡ get (take w (drop (i * w) bs))
getD_chunks get w zero i bs d lt = absurd (omega arith)
getD_chunks get w (suc n) zero bs d lt = rw zero-mul
getD_chunks get w (suc n) (suc i) bs d lt =
    let s : suc i * w ≡ w + i * w = omega (arith, suc-mul i w) in
    getD_chunks get w n i (drop w bs) d (omega arith)
    ∙ ap (λ (l : List ℕ). get (take w l)) (drop-drop (i * w) w bs)
    ∙ ap (λ (m : ℕ). get (take w (drop m bs))) (sym s)

-- ---- counts
sum_more : (xs : List ℕ) (i : ℕ) → i < length xs → sum (set xs i (get_or xs i 0 + 1)) ≡ sum xs + 1
sum_more xs i lt = omega (arith, sum_by-set (λ x. x) xs i (get_or xs i 0 + 1) 0 lt)

pub count_le : (xs : List ℕ) (i : ℕ) → i < length xs → get_or xs i 0 ≤ sum xs
count_le xs i lt = get_or-le-sum_by (λ x. x) xs i 0 lt

pub sum_none : (n : ℕ) → sum (replicate n 0) ≡ 0
sum_none zero = refl
sum_none (suc n) = sum_by-cons (λ x. x) 0 (replicate n 0) ∙ omega (arith, sum_none n)

-- ---- where a line lies; v is the width as the code has it
room : (i n w v : ℕ) → i < n → v ≡ w → i * v + v ≤ n * w
room i n w v lt e =
    let sl : suc i ≤ n = omega arith in
    let m : suc i * w ≤ n * w = mul-le-mul_right w sl in
    let s = suc-mul i w in
    rw e (omega arith)

part_long : (i n w : ℕ) (bs : List ℕ) → i < n → length bs ≡ n * w → length (take w (drop (i * w) bs)) ≡ w
part_long i n w bs lt eb =
    let h = room i n w w lt refl in
    length-take-le w (drop (i * w) bs) (simp length-drop (omega arith))

lines_are : {V : Type 0} (get : List ℕ → V) (w n : ℕ) (bs : List ℕ) → length bs ≡ n * w → lines_in get w n bs ≡ chunks get w n bs
unfolding lines_in
lines_are get w n bs e = ap (λ b. cond b (chunks get w n bs) []) (eq-eqb (length bs) (n * w) e)

pub lines_length : {V : Type 0} (get : List ℕ → V) (w v n : ℕ) (bs : List ℕ) → v ≡ w → length bs ≡ n * v → length (lines_in get w n bs) ≡ n
lines_length get w v n bs e h = ap length (lines_are get w n bs (h ∙ ap (λ x. n * x) e)) ∙ length_chunks get w n bs

pub lines_none : {V : Type 0} (get : List ℕ → V) (w v n : ℕ) (bs : List ℕ) → v ≡ w → (length bs ≡ n * v → ⊥) → lines_in get w n bs ≡ []
unfolding lines_in
lines_none get w v n bs e h = ap (λ b. cond b (chunks get w n bs) []) (ne_eqb (length bs) (n * w) (λ k. h (k ∙ ap (λ x. n * x) (sym e))))

-- where there is a line i, the bytes are as many as they should be
line_if : {V : Type 0} (get : List ℕ → V) (w n i : ℕ) (bs : List ℕ) (b : Bool) → eqb (length bs) (n * w) ≡ b → i < length (cond b (chunks get w n bs) []) → (i < n) × (length bs ≡ n * w)
line_if get w n i bs true e h = let k = length_chunks get w n bs in (omega arith, eqb-true (length bs) (n * w) e)
line_if get w n i bs false e h = absurd (omega arith)

pub line_there : {V : Type 0} (get : List ℕ → V) (w n i : ℕ) (bs : List ℕ) → i < length (lines_in get w n bs) → (i < n) × (length bs ≡ n * w)
unfolding lines_in
line_there get w n i bs h = line_if get w n i bs (eqb (length bs) (n * w)) refl h

pub line_room : {V : Type 0} (get : List ℕ → V) (w v n i : ℕ) (bs : List ℕ) → i < length (lines_in get w n bs) → v ≡ w → i * v + v ≤ length bs
line_room get w v n i bs h e = let k = line_there get w n i bs h in let k1 = k.1 in omega (arith, room i n w v k.0 e)

-- ---- a line read
pub part_at : (i v w : ℕ) (bs : List ℕ) → v ≡ w → take (i * v + v - i * v) (drop (i * v) bs) ≡ take w (drop (i * w) bs)
part_at i v w bs e =
    let z : i * v + v - i * v ≡ w = omega arith in
    ap (λ (k : ℕ). take k (drop (i * v) bs)) z ∙ ap (λ (k : ℕ). take w (drop (i * k) bs)) e

pub line_read : {V : Type 0} (get : List ℕ → V) (w n i : ℕ) (bs part : List ℕ) (d : Denial) (r : Result V Denial)
    → i < length (lines_in get w n bs) → part ≡ take w (drop (i * w) bs) → r ≡ cond (eqb (length part) w) (Ok (get part)) (Err d)
    → r ≡ fetched (lines_in get w n bs) i
line_read {V} get w n i bs part d r h ep e =
    let k = line_there get w n i bs h in
    let x : V = get (take w (drop (i * w) bs)) in
    e ∙ ap (λ (b : Bool). cond b (Ok (get part)) (Err d)) (eq-eqb (length part) w (ap length ep ∙ part_long i n w bs k.0 k.1))
    ∙ ap (λ (l : List ℕ). Ok (get l)) ep
    ∙ fetched_at (lines_in get w n bs) i x h (sym (ap (λ (l : List V). get_or l i x) (lines_are get w n bs k.1) ∙ getD_chunks get w n i bs x k.0))

-- ---- a line written
laid_mid : (w a : ℕ) (bs ys : List ℕ) → length ys ≡ w → laid bs a ys ≡ put_mid a w bs ys
laid_mid w a bs ys e = ap (λ (k : ℕ). take a bs ++ (ys ++ drop (a + k) bs)) e ∙ ap (λ (l : List ℕ). take a bs ++ (ys ++ l)) (sym (drop-drop w a bs))

lines_laid : {V : Type 0} (get : List ℕ → V) (w n i : ℕ) (bs ys : List ℕ) (v : V)
    → i < length (lines_in get w n bs) → length ys ≡ w → get ys ≡ v → lines_in get w n (laid bs (i * w) ys) ≡ set (lines_in get w n bs) i v
lines_laid {V} get w n i bs ys v h el ev =
    let k = line_there get w n i bs h in
    let long : length (put_mid (i * w) w bs ys) ≡ n * w = same_len_mid (i * w) w bs ys (el ∙ sym (part_long i n w bs k.0 k.1)) ∙ k.1 in
    ap (lines_in get w n) (laid_mid w (i * w) bs ys el)
    ∙ lines_are get w n (put_mid (i * w) w bs ys) long
    ∙ chunks_put get w n i (i * w) bs ys refl k.0 k.1 el
    ∙ ap (λ (x : V). set (chunks get w n bs) i x) ev
    ∙ ap (λ (l : List V). set l i v) (sym (lines_are get w n bs k.1))

-- what a value leaves that is written into its part of the bytes
pub mid_laid : (i v w : ℕ) (bs xs ys : List ℕ) → v ≡ w → xs ≡ ys → length ys ≡ w → put_mid (i * v) (i * v + v - i * v) bs xs ≡ laid bs (i * w) ys
mid_laid i v w bs xs ys ev ex el =
    let e : i * v + v - i * v ≡ w = omega arith in
    ap (λ (k : ℕ). put_mid (i * v) k bs xs) e
    ∙ ap (λ (k : ℕ). put_mid (i * k) w bs xs) ev
    ∙ ap (λ (l : List ℕ). put_mid (i * w) w bs l) ex
    ∙ sym (laid_mid w (i * w) bs ys el)

same_array : {A : Type 0} (ls ls' : List A) (t t' l l' : ℕ) → ls ≡ ls' → t ≡ t' → l ≡ l'
    → ◌≡◌ {A = Array A} (record { lines = ls; taken = t; life = l }) (record { lines = ls'; taken = t'; life = l' })
same_array ls ls' t t' l l' a b c = cc

-- what an accepted write comes to
pub write_wrote : {V : Type 0} (get : List ℕ → V) (w : ℕ) (bs zs cs cs' : List ℕ) (life life' i : ℕ) (v : V) (ys : List ℕ)
    → i < length (lines_in get w (length cs) bs) → sum cs < life → cs' ≡ set cs i (get_or cs i 0 + 1) → life' ≡ life
    → zs ≡ laid bs (i * w) ys → length ys ≡ w → get ys ≡ v
    → Wrote (byte_array get w bs cs life) (sum cs) i v (byte_array get w zs cs' life') (sum cs') (Ok 1)
write_wrote {V} get w bs zs cs cs' life life' i v ys h k ec el ez ly gy =
    let p = line_there get w (length cs) i bs h in
    let m : sum cs' ≡ sum cs + 1 = ap sum ec ∙ sum_more cs i p.0 in
    let n : length cs' ≡ length cs = ap length ec ∙ length-set cs i _ in
    let ls : lines_in get w (length cs') zs ≡ set (lines_in get w (length cs) bs) i v =
    ap (λ (j : ℕ). lines_in get w j zs) n ∙ ap (lines_in get w (length cs)) ez ∙ lines_laid get w (length cs) i bs ys v h ly gy in
    wrote_accepted (byte_array get w bs cs life) (sum cs) i v (byte_array get w zs cs' life') (sum cs') 1 h k (same_array _ _ _ _ _ _ ls m el) (omega arith) (let q : sum cs' - sum cs ≡ 1 = omega arith in simp q refl)

-- one count more is still the sum that is kept
pub counts_more : (cs cs' : List ℕ) (i : ℕ) → i < length cs → cs' ≡ set cs i (get_or cs i 0 + 1) → (length cs' ≡ length cs) × (sum cs' ≡ sum cs + 1)
counts_more cs cs' i h e = (ap length e ∙ length-set cs i _, ap sum e ∙ sum_more cs i h)

-- ---- the survey
pub survey_few : (w n life long : ℕ) → is_err (byte_survey w n life long) ≡ false → n ≤ 4096
survey_few w n life long e = grind (arith, e)

pub lines_empty : {V : Type 0} (get : List ℕ → V) (w : ℕ) → lines_in get w 0 [] ≡ []
unfolding lines_in
lines_empty {V} get w = elim (eqb 0 (0 * w)) as (λ b. cond b (chunks get w 0 []) [] ≡ []) [ true ↦ refl | false ↦ refl ]

-- a making that the survey denies
pub made_unfit : {A : Type 0} (s : Result (Unit {0}) Denial) (a made : Array A) (wear : ℕ) → is_err s ≡ true
    → made ≡ record { lines = []; taken = 0; life = 0 } → wear ≡ 0 → MadeAs s a made wear
made_unfit (Ok u) a made wear h e w = let z : ◌≡◌ {A = ℕ} 0 1 = cc in absurd (omega arith)
made_unfit (Err d) a made wear h e w = (e, w)

pub denied_not_ok : (s : Result (Unit {0}) Denial) → is_err s ≡ true → s ≡ Ok tt → ◌≡◌ {A = ℕ} 0 1
denied_not_ok s h e = cc (ap is_err e)
