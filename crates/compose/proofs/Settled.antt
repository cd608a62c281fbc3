-- The lines of the settings are read as what their words spell, and what is read is what they spell: one line at a time.
use Rattle.std.proofs.Common.{◌≡◌, ℕ, Bool, true, false, cond, List, [], ◌∷◌, map, Ok, Err, Result, sym, refl, ap, ◌∙◌, subst, arith}
use Rattle.std.proofs.lemmas.Slice.Eq.{bytes_eq-Decides}
use Rattle.compose.specs.declared.fields.Letter.{Letter}
use Rattle.compose.specs.declared.refusal.Setting.{Setting}
use Rattle.compose.specs.declared.refusal.Setting.TheVariants.{Keys}
use Rattle.compose.specs.declared.refusal.Wrong.{Wrong}
use Rattle.compose.specs.declared.refusal.Wrong.TheVariants.{Expected, NotALetter}
use Rattle.compose.specs.Fields.{at, then, at_line, first, tail, ended}
use Rattle.compose.specs.Lines.{Entry}
use Rattle.compose.specs.Says.{KeysSpelled}
use Rattle.compose.specs.Settings.{name_of, begins, named, others, letter, lone, four_in, setting_in, keys_in}
use Rattle.compose.proofs.Asking.{then_ok, then_go, then_numeral, first_ok, ended_ok}
use Rattle.compose.proofs.Numerals.{ok_err, ok_ok, numeral_complete}

-- the words of the entries
abbrev pub words_of : List Entry → List (List (List ℕ))
words_of es = map (λ (e : Entry). e.words) es

pub at_line_ok : {X : Type 0} (n : ℕ) (r : Result X Wrong) (x : X) → at_line n r ≡ Ok x → r ≡ Ok x
at_line_ok n (Ok y) x h = ap {B = Result _ Wrong} Ok (ok_ok y x h)
at_line_ok n (Err e) x h = absurd (ok_err x (at n e) h)

-- the first entry begins with the setting's name
begins_ok : (ws : List (List ℕ)) (name : List ℕ) → begins ws name ≡ true → ws ≡ name ∷ tail ws
begins_ok [] name h = let z : ◌≡◌ {A = ℕ} 0 1 = cc in absurd (omega arith)
begins_ok (w ∷ ws) name h = ap (λ (x : List ℕ). x ∷ ws) ((bytes_eq-Decides w name).0 h)

-- the entries es begin with one whose words are ws
pub record Begin (es : List Entry) (ws : List (List ℕ)) : Type 0 where
  pub first : Entry
  pub parts : es ≡ first ∷ others es
  pub words : first.words ≡ ws

by_name : (s : Setting) (e : Entry) (es : List Entry) (x : Entry) (t : Bool) → begins e.words (name_of s) ≡ t
    → cond t (Ok (record { number = e.number; words = tail e.words })) (Err (at e.number (Expected s))) ≡ Ok x → Begin (e ∷ es) (name_of s ∷ x.words)
by_name s e es x true b h =
    let same : record { number = e.number; words = tail e.words } ≡ x = ok_ok _ x h in
    record { first = e; parts = refl; words = begins_ok e.words (name_of s) b ∙ ap (λ (z : Entry). name_of s ∷ z.words) same }
by_name s e es x false b h = absurd (ok_err x (at e.number (Expected s)) h)

named_ok : (s : Setting) (last : ℕ) (es : List Entry) (x : Entry) → named s last es ≡ Ok x → Begin es (name_of s ∷ x.words)
named_ok s last [] x h = absurd (ok_err x (at last (Expected s)) h)
named_ok s last (e ∷ es) x h = by_name s e es x (begins e.words (name_of s)) refl h

-- the same, the other way
named_is : (s : Setting) (last : ℕ) (es : List Entry) (ws : List (List ℕ)) (b : Begin es (name_of s ∷ ws))
    → named s last es ≡ Ok (record { number = b.first.number; words = ws })
named_is s last es ws b =
    ap (named s last) b.parts
    ∙ ap (λ (z : List (List ℕ)). named s last (record { number = b.first.number; words = z } ∷ others es)) b.words
    ∙ ap (λ (t : Bool). cond t (Ok (record { number = b.first.number; words = ws })) (Err (at b.first.number (Expected s)))) ((bytes_eq-Decides (name_of s) (name_of s)).1 refl)

-- what the words after a setting's name give, and the words
line_sound : {X : Type 0} (s : Setting) (f : List (List ℕ) → Result X Wrong) (last : ℕ) (es : List Entry) (x : X)
    → then (named s last es) (λ e. at_line e.number (f e.words)) ≡ Ok x → (ws : List (List ℕ)) × (Begin es (name_of s ∷ ws) × (f ws ≡ Ok x))
line_sound s f last es x h =
    let t = then_ok (named s last es) _ x h in
    (t.0.words, (named_ok s last es t.0 t.1.0, at_line_ok t.0.number (f t.0.words) x t.1.1))

line_complete : {X : Type 0} (s : Setting) (f : List (List ℕ) → Result X Wrong) (last : ℕ) (es : List Entry) (ws : List (List ℕ)) (x : X)
    → Begin es (name_of s ∷ ws) → f ws ≡ Ok x → then (named s last es) (λ e. at_line e.number (f e.words)) ≡ Ok x
line_complete s f last es ws x b h = then_go _ (named_is s last es ws b) ∙ ap (at_line b.first.number) h

-- a setting that is one word
pub setting_sound : {X : Type 0} (s : Setting) (f : List ℕ → Result X Wrong) (last : ℕ) (es : List Entry) (x : X) → setting_in s f last es ≡ Ok x
    → (w : List ℕ) × (Begin es (name_of s ∷ w ∷ []) × (f w ≡ Ok x))
setting_sound s f last es x h =
    let l = line_sound s (lone f) last es x h in
    let t = then_ok (first f l.0) _ x l.1.1 in
    let w = first_ok f l.0 t.0 t.1.0 in
    let d = then_ok (ended (tail l.0)) _ x t.1.1 in
    let end : tail l.0 ≡ [] = ended_ok (tail l.0) d.0 d.1.0 in
    let words : l.0 ≡ w.0 ∷ [] = cc (w.1.0, end) in
    (w.0, (subst (λ (z : List (List ℕ)). Begin es (name_of s ∷ z)) words l.1.0, w.1.1 ∙ d.1.1))

pub setting_complete : {X : Type 0} (s : Setting) (f : List ℕ → Result X Wrong) (last : ℕ) (es : List Entry) (w : List ℕ) (x : X)
    → Begin es (name_of s ∷ w ∷ []) → f w ≡ Ok x → setting_in s f last es ≡ Ok x
setting_complete s f last es w x b h = line_complete s (lone f) last es (w ∷ []) x b (then_go _ h)

pub letter_ok : (w : List ℕ) (l : Letter) → letter w ≡ Ok l → w ≡ l.0 ∷ []
letter_ok [] l h = absurd (ok_err l NotALetter h)
letter_ok (b ∷ []) l h = ap (λ (x : Letter). x.0 ∷ []) (ok_ok (record { 0 = b }) l h)
letter_ok (b ∷ c ∷ w) l h = absurd (ok_err l NotALetter h)

-- the keys
pub keys_sound : (last : ℕ) (es : List Entry) (ks : List ℕ) → keys_in last es ≡ Ok ks → (ws : List (List ℕ)) × (Begin es (name_of Keys ∷ ws) × KeysSpelled ws ks)
keys_sound last es ks h =
    let x = line_sound Keys four_in last es ks h in
    let ws : List (List ℕ) = x.0 in
    let a = then_numeral 65535 ws _ ks x.1.1 in
    let b = then_numeral 65535 (tail ws) _ ks a.1.1.2 in
    let c = then_numeral 65535 (tail (tail ws)) _ ks b.1.1.2 in
    let d = then_numeral 65535 (tail (tail (tail ws))) _ ks c.1.1.2 in
    let z = then_ok (ended (tail (tail (tail (tail ws))))) _ ks d.1.1.2 in
    let end : tail (tail (tail (tail ws))) ≡ [] = ended_ok (tail (tail (tail (tail ws)))) z.0 z.1.0 in
    let four : ws ≡ a.1.0 ∷ b.1.0 ∷ c.1.0 ∷ d.1.0 ∷ [] = cc (a.1.1.0, b.1.1.0, c.1.1.0, d.1.1.0, end) in
    let is : ks ≡ a.0 ∷ b.0 ∷ c.0 ∷ d.0 ∷ [] = sym (ok_ok (a.0 ∷ b.0 ∷ c.0 ∷ d.0 ∷ []) ks z.1.1) in
    (ws, (x.1.0, (a.1.0, (b.1.0, (c.1.0, (d.1.0, (a.0, (b.0, (c.0, (d.0, (four, is, a.1.1.1, b.1.1.1, c.1.1.1, d.1.1.1)))))))))))

pub keys_complete : (last : ℕ) (es : List Entry) (ws : List (List ℕ)) (ks : List ℕ) → Begin es (name_of Keys ∷ ws) → KeysSpelled ws ks → keys_in last es ≡ Ok ks
keys_complete last es ws ks b x =
    let y = x.1.1.1.1 in
    let p = y.1.1.1.1 in
    line_complete Keys four_in last es ws ks b
    (
    ap four_in p.0 ∙ then_go _ (numeral_complete 65535 x.0 y.0 p.2) ∙ then_go _ (numeral_complete 65535 x.1.0 y.1.0 p.3)
    ∙ then_go _ (numeral_complete 65535 x.1.1.0 y.1.1.0 p.4) ∙ then_go _ (numeral_complete 65535 x.1.1.1.0 y.1.1.1.0 p.5)
    ∙ ap {B = Result (List ℕ) Wrong} Ok (sym p.1)
    )
