-- What stands at a place of a list that is put together from others is what stands in the part: a number, the letters of the
-- mark and the settings are read byte by byte, and each byte of a part stands in the whole, the part's place further on.
use Rattle.std.proofs.Common.{◌≡◌, ℕ, ◌+◌, ◌-◌, ◌<◌, ◌≤◌, true, eqb, List, ◌++◌, length, get_or, drop, sym, refl, ap, ◌∙◌, arith}
use Rattle.std.specs.List.{ends_with}
use Rattle.std.proofs.lemmas.Bool.Decides.{Decides-eqb}
use Rattle.std.proofs.lemmas.Slice.Eq.{slice_eq-Decides}
use Rattle.std.proofs.lemmas.List.{get_or-append-add, get_or_append_left, get_or-drop}
use Rattle.line.specs.Words.{at16, at32}
use Rattle.runfile.specs.Layout.{mark, marked_at, settings_from}

-- bs stands in f from n on
abbrev pub Part : List ℕ → ℕ → List ℕ → Type 0
Part f n bs = (i : ℕ) → i < length bs → get_or f (n + i) 0 ≡ get_or bs i 0

pub part_middle : (f pre bs post : List ℕ) → f ≡ pre ++ (bs ++ post) → Part f (length pre) bs
part_middle f pre bs post e i lt =
    ap (λ (l : List ℕ). get_or l (length pre + i) 0) e ∙ get_or-append-add pre (bs ++ post) i 0 ∙ get_or_append_left bs post 0 i lt

pub part_end : (f : List ℕ) (n : ℕ) → Part f n (drop n f)
part_end f n i lt = sym (get_or-drop n f i 0)

pub part_at : (f bs : List ℕ) (n m : ℕ) → m ≡ n → Part f n bs → Part f m bs
part_at f bs n m e p i lt = ap (λ (k : ℕ). get_or f (k + i) 0) e ∙ p i lt

pub byte_in : (f bs : List ℕ) (n m i : ℕ) → Part f n bs → m ≡ n + i → i < length bs → get_or f m 0 ≡ get_or bs i 0
byte_in f bs n m i p e lt = ap (λ (k : ℕ). get_or f k 0) e ∙ p i lt

pub at16_in : (f bs : List ℕ) (n m o : ℕ) → Part f n bs → m ≡ n + o → o + 2 ≤ length bs → at16 f m ≡ at16 bs o
at16_in f bs n m o p e lt =
    let a = byte_in f bs n m o p e (omega arith) in
    let b = byte_in f bs n (m + 1) (o + 1) p (omega arith) (omega arith) in
    cc

pub at32_in : (f bs : List ℕ) (n m o : ℕ) → Part f n bs → m ≡ n + o → o + 4 ≤ length bs → at32 f m ≡ at32 bs o
at32_in f bs n m o p e lt =
    let a = byte_in f bs n m o p e (omega arith) in
    let b = byte_in f bs n (m + 1) (o + 1) p (omega arith) (omega arith) in
    let c = byte_in f bs n (m + 2) (o + 2) p (omega arith) (omega arith) in
    let d = byte_in f bs n (m + 3) (o + 3) p (omega arith) (omega arith) in
    cc

pub settings_in : (f bs : List ℕ) (n : ℕ) → Part f n bs → length bs ≡ 20 → settings_from f n ≡ settings_from bs 0
settings_in f bs n p l =
    let pile = byte_in f bs n n 0 p (omega arith) (omega arith) in
    let regions = byte_in f bs n (n + 1) 1 p refl (omega arith) in
    let interval = at16_in f bs n (n + 2) 2 p refl (omega arith) in
    let lines = at16_in f bs n (n + 4) 4 p refl (omega arith) in
    let six = byte_in f bs n (n + 6) 6 p refl (omega arith) in
    let life = at32_in f bs n (n + 8) 8 p refl (omega arith) in
    let k0 = at16_in f bs n (n + 12) 12 p refl (omega arith) in
    let k1 = at16_in f bs n (n + 14) 14 p refl (omega arith) in
    let k2 = at16_in f bs n (n + 16) 16 p refl (omega arith) in
    let k3 = at16_in f bs n (n + 18) 18 p refl (omega arith) in
    cc

-- the letters of the mark, as the end of a list
pub marked_from : (f : List ℕ) (b : ℕ) → drop b f ≡ mark → marked_at f b ≡ true
marked_from f b d =
    let byte : (n i : ℕ) → n ≡ b + i → get_or f n 0 ≡ get_or mark i 0 =
    λ n i e. ap (λ (k : ℕ). get_or f k 0) e ∙ sym (get_or-drop b f i 0) ∙ ap (λ (l : List ℕ). get_or l i 0) d in
    let e0 = byte b 0 (omega arith) in
    let e1 = byte (b + 1) 1 refl in
    let e2 = byte (b + 2) 2 refl in
    let e3 = byte (b + 3) 3 refl in
    rw (e0, e1, e2, e3) refl

pub ends_marked : (f : List ℕ) → true ≡ ends_with eqb f mark → marked_at f (length f - 4) ≡ true
ends_marked f e = marked_from f (length f - 4) (sym ((slice_eq-Decides Decides-eqb mark (drop (length f - 4) f) true e).0 refl))
