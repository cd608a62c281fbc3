-- A file that is read without a fault says what is read. It is cut at the settings, at the requests and at the trailer; each
-- part holds what was read at its place, and the requests' part is spelled out by the requests.
use Rattle.std.proofs.Common.{◌≡◌, ℕ, ◌+◌, ◌-◌, ◌≤◌, true, eqb, List, ◌++◌, length, get_or, take, drop, sym, refl, ap, ◌∙◌, arith, length-drop}
use Rattle.std.proofs.lemmas.List.{drop-drop, get_or-drop, take-append-drop, length-take-le}
use Rattle.std.proofs.lemmas.Slice.Eq.{text_from_reads}
use Rattle.std.proofs.lemmas.Bool.{and_parts, eqb-true}
use Rattle.line.specs.Words.{at32}
use Rattle.runfile.specs.Asks.{asks}
use Rattle.runfile.specs.Layout.{settings_from, known_pile, mark, marked_at}
use Rattle.reader.specs.Reading.{settings_at, requests_of}
use Rattle.runfile.specs.RunFile.{PileLetter, Says}
use Rattle.reader.proofs.Places.{Part, part_middle, part_end, part_at, at32_in, settings_in}
use Rattle.reader.proofs.Questions.{Passed}
use Rattle.reader.proofs.Spelling.{found_spelled}

cut : (f : List ℕ) (o n m e : ℕ) → e ≡ o + n + m → f ≡ take o f ++ (take n (drop o f) ++ (take m (drop (o + n) f) ++ drop e f))
cut f o n m e h =
    sym (take-append-drop o f)
    ∙ ap (λ (z : List ℕ). take o f ++ z)
    (sym (take-append-drop n (drop o f))
    ∙ ap (λ (z : List ℕ). take n (drop o f) ++ z)
    (drop-drop n o f ∙ sym (take-append-drop m (drop (o + n) f))
    ∙ ap (λ (z : List ℕ). take m (drop (o + n) f) ++ z) (drop-drop m (o + n) f ∙ ap (λ (k : ℕ). drop k f) (sym h))))

letter_from : (p : ℕ) → known_pile p ≡ true → PileLetter p
letter_from p h = grind arith

mark_from : (f : List ℕ) (b : ℕ) → length f ≡ b + 4 → marked_at f b ≡ true → drop b f ≡ mark
mark_from f b l h =
    let p = and_parts (eqb (get_or f b 0) 82) _ h in
    let q = and_parts (eqb (get_or f (b + 1) 0) 85) _ p.1 in
    let r = and_parts (eqb (get_or f (b + 2) 0) 78) (eqb (get_or f (b + 3) 0) 49) q.1 in
    let byte : (i n v : ℕ) → n ≡ b + i → eqb (get_or f n 0) v ≡ true → get_or (drop b f) i 0 ≡ v =
    λ i n v e t. get_or-drop b f i 0 ∙ ap (λ (k : ℕ). get_or f k 0) (sym e) ∙ eqb-true _ _ t in
    text_from_reads (drop b f) mark (length-drop b f ∙ omega arith) (byte 0 b 82 (omega arith) p.0, (byte 1 (b + 1) 85 refl q.0, (byte 2 (b + 2) 78 refl r.0, (byte 3 (b + 3) 49 refl r.1, tt))))

-- it says it, with the settings where they were read
pub passed_says : (f : List ℕ) (slots : ℕ) → Passed f slots
    → (x : Says f (settings_from f (settings_at f)) (asks (requests_of f))) × (settings_at f ≡ length x.lead)
passed_says f slots h =
    let o : ℕ = settings_at f in
    let e : ℕ = length f - 16 in
    let m : ℕ = e - (o + 20) in
    let lo = h.long in
    let li = h.linked in
    let ba = h.back in
    let oe : o + 20 ≤ e = omega arith in
    let me : m ≡ at32 f (length f - 12) = omega arith in
    let settings : List ℕ = take 20 (drop o f) in
    let requests : List ℕ = take m (drop (o + 20) f) in
    let trailer : List ℕ = drop e f in
    let whole : f ≡ take o f ++ (settings ++ (requests ++ trailer)) = cut f o 20 m e (omega arith) in
    let ls : length settings ≡ 20 = length-take-le 20 (drop o f) (omega (arith, length-drop o f)) in
    let lr : length requests ≡ m = length-take-le m (drop (o + 20) f) (omega (arith, length-drop (o + 20) f)) in
    let lt : length trailer ≡ 16 = length-drop e f ∙ omega arith in
    let part : Part f o settings = part_at f settings (length (take o f)) o (sym (length-take-le o f (omega arith))) (part_middle f (take o f) settings (requests ++ trailer) whole) in
    let sp = found_spelled (at32 f (length f - 8)) f (o + 20) e (omega arith) oe h.walked in
    let t0 : at32 f (length f - 16) ≡ at32 trailer 0 = at32_in f trailer e (length f - 16) 0 (part_end f e) (omega arith) (omega arith) in
    let t4 : at32 f (length f - 12) ≡ at32 trailer 4 = at32_in f trailer e (length f - 12) 4 (part_end f e) (omega arith) (omega arith) in
    let t8 : at32 f (length f - 8) ≡ at32 trailer 8 = at32_in f trailer e (length f - 8) 8 (part_end f e) (omega arith) (omega arith) in
    let lp : length (take o f) ≡ o = length-take-le o f (omega arith) in (
      record {
        lead = take o f;
        settings = settings;
        requests = requests;
        trailer = trailer;
        whole = whole;
        short = h.short;
        twenty = ls;
        settled = settings_in f settings o part ls;
        letter = letter_from (get_or f o 0) h.known;
        spelled = sp.0;
        sixteen = lt;
        to_settings = sym t0 ∙ li ∙ ap (λ (k : ℕ). k + 20) (sym me ∙ sym lr);
        to_requests = sym t4 ∙ sym me ∙ sym lr;
        number = sym t8 ∙ sym sp.1;
        marked = drop-drop 12 e f ∙ ap (λ (k : ℕ). drop k f) (omega arith) ∙ mark_from f (length f - 4) (omega arith) h.marked;
      },
      sym lp,
    )

-- as many as were counted
pub passed_number : (f : List ℕ) (slots : ℕ) → Passed f slots → at32 f (length f - 8) ≡ length (asks (requests_of f))
passed_number f slots h =
    let lo = h.long in
    let li = h.linked in
    let ba = h.back in
    let oe : settings_at f + 20 ≤ length f - 16 = omega arith in
    sym (found_spelled (at32 f (length f - 8)) f (settings_at f + 20) (length f - 16) (omega arith) oe h.walked).1
