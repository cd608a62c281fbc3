-- A text is read as what it says, and a fault is found only where it says nothing that fits a file. The entries are taken one by one; what
-- a text says gives each entry's words, and they give what is read.
use Rattle.std.proofs.Common.{◌≡◌, ℕ, ◌+◌, ◌≤◌, Bool, true, false, cond, leb, List, [], ◌∷◌, ◌++◌, length, Vec, Result, Ok, Err, sym, refl, ap, ◌∙◌, subst, arith, length-append, le-leb, leb-true}
use Rattle.std.specs.declared.alloc.Global.{Global}
use Rattle.runfile.specs.Asks.{Ask}
use Rattle.runfile.specs.RunFile.{ask_bytes, asks_bytes, settings_bytes, trailer_bytes, written}
use Rattle.runfile.specs.declared.settings.Settings.{Settings}
use Rattle.compose.specs.declared.refusal.Fault.{Fault}
use Rattle.compose.specs.declared.refusal.Refusal.{Refusal}
use Rattle.compose.specs.declared.refusal.Refusal.TheVariants.{NoMemory, Text}
use Rattle.compose.specs.declared.refusal.Setting.TheVariants.{Pile, Regions, Interval, Lines, N, Life}
use Rattle.compose.specs.declared.refusal.Wrong.TheVariants.{TooLong}
use Rattle.compose.specs.declared.requests.Request.{Request}
use Rattle.compose.specs.Composing.{Composed}
use Rattle.compose.specs.Fields.{at, then, at_line, request_in, request_size, ask_of}
use Rattle.compose.specs.Lines.{Entry, entries, last_number}
use Rattle.compose.specs.Pieces.{pieces}
use Rattle.compose.specs.Says.{KeysSpelled, AskSpelled, AsksSpelled, Says, Exact, OneMeaning}
use Rattle.compose.specs.Scripts.{Script, asks_in, script_of, file_of}
use Rattle.compose.specs.Numerals.{number}
use Rattle.compose.specs.Settings.{others, letter, setting_in, keys_in, after_settings, settings_in}
use Rattle.compose.proofs.Asking.{then_ok, then_go, request_sound, request_complete}
use Rattle.compose.proofs.Going.{length_ask}
use Rattle.compose.proofs.Numerals.{ok_err, ok_ok, numeral_sound, numeral_complete}
use Rattle.compose.proofs.Settled.{words_of, at_line_ok, Begin, setting_sound, setting_complete, letter_ok, keys_sound, keys_complete}

-- requests
abbrev Told : ℕ → List Entry → List Ask → Type 0
Told size es qs = AsksSpelled (words_of es) qs × (size + length (asks_bytes qs) ≤ 65500)

by_room : (size : ℕ) (e : Entry) (es : List Entry) (q : Request) (qs : List Ask) → AskSpelled e.words (ask_of q)
    → ((size' : ℕ) (qs' : List Ask) → asks_in size' es ≡ Ok qs' → size' ≤ 65500 → Told size' es qs')
    → (t : Bool) → leb (size + request_size q) 65500 ≡ t
    → cond t (then (asks_in (size + request_size q) es) (λ qs. Ok (ask_of q ∷ qs))) (Err (at e.number TooLong)) ≡ Ok qs → Told size (e ∷ es) qs
by_room size e es q qs a ih true b h =
    let r = then_ok (asks_in (size + request_size q) es) _ qs h in
    let t = ih (size + request_size q) r.0 r.1.0 (leb-true (size + request_size q) 65500 b) in
    let l = length-append (ask_bytes (ask_of q)) (asks_bytes r.0) in
    let k = length_ask q in
    let le = t.1 in
    subst (Told size (e ∷ es)) (ok_ok (ask_of q ∷ r.0) qs r.1.1) ((a, t.0), omega arith)
by_room size e es q qs a ih false b h = absurd (ok_err qs (at e.number TooLong) h)

asks_sound : (size : ℕ) (es : List Entry) (qs : List Ask) → asks_in size es ≡ Ok qs → size ≤ 65500 → Told size es qs
asks_sound size [] qs h le = subst (Told size []) (ok_ok [] qs h) (tt, omega arith)
asks_sound size (e ∷ es) qs h le =
    let r = then_ok (at_line e.number (request_in e.words)) _ qs h in
    by_room size e es r.0 qs (request_sound e.words r.0 (at_line_ok e.number (request_in e.words) r.0 r.1.0)) (λ size' qs' h' le'. asks_sound size' es qs' h' le') (leb (size + request_size r.0) 65500) refl r.1.1

asks_complete : (size : ℕ) (es : List Entry) (qs : List Ask) → AsksSpelled (words_of es) qs → size + length (asks_bytes qs) ≤ 65500 → asks_in size es ≡ Ok qs
asks_complete size [] [] x le = refl
asks_complete size [] (a ∷ qs) x le = absurd x
asks_complete size (e ∷ es) [] x le = absurd x
asks_complete size (e ∷ es) (a ∷ qs) x le =
    let r = request_complete e.words a x.0 in
    let q : Request = r.0 in
    let l = length-append (ask_bytes a) (asks_bytes qs) in
    let k = length_ask q in
    let same : length (ask_bytes (ask_of q)) ≡ length (ask_bytes a) = ap (λ (z : Ask). length (ask_bytes z)) r.1.1 in
    let fit : size + request_size q ≤ 65500 = omega arith in
    let left : size + request_size q + length (asks_bytes qs) ≤ 65500 = omega arith in
    then_go _ (ap (at_line e.number) r.1.0)
    ∙ ap (λ (t : Bool). cond t (then (asks_in (size + request_size q) es) (λ qs. Ok (ask_of q ∷ qs))) (Err (at e.number TooLong))) (le-leb (size + request_size q) 65500 fit)
    ∙ then_go _ (asks_complete (size + request_size q) es qs x.1 left)
    ∙ ap (λ (z : Ask). Ok (z ∷ qs)) r.1.1

-- the length of a file
written_length : (s : Settings) (qs : List Ask) (i j k l : ℕ) → s.keys ≡ i ∷ j ∷ k ∷ l ∷ [] → length (written [] 0 s qs) ≡ length (asks_bytes qs) + 36
written_length s qs i j k l e =
    let t : List ℕ = asks_bytes qs ++ trailer_bytes (length (asks_bytes qs)) (length qs) in
    let a : length (settings_bytes 0 s ++ t) ≡ length (settings_bytes 0 s) + length t = length-append (settings_bytes 0 s) t in
    let b : length t ≡ length (asks_bytes qs) + 16 = length-append (asks_bytes qs) (trailer_bytes (length (asks_bytes qs)) (length qs)) in
    let c : length (settings_bytes 0 s) ≡ 20 =
    ap (λ (ks : List ℕ). length (settings_bytes 0 (record { pile = s.pile; regions = s.regions; interval = s.interval; lines = s.lines; n = s.n; life = s.life; keys = ks }))) e in
    omega arith

file_length : (s : Settings) (qs : List Ask) (ws : List (List ℕ)) → KeysSpelled ws s.keys → length (written [] 0 s qs) ≡ length (asks_bytes qs) + 36
file_length s qs ws x =
    let y = x.1.1.1.1 in
    written_length s qs y.0 y.1.0 y.1.1.0 y.1.1.1.0 y.1.1.1.1.1

-- the words of entries that begin so
begun : {es : List Entry} {ws : List (List ℕ)} {wss : List (List (List ℕ))} → Begin es ws → words_of (others es) ≡ wss → words_of es ≡ ws ∷ wss
begun {es} {ws} b h = ap words_of b.parts ∙ ap (λ (z : List (List ℕ)). z ∷ words_of (others es)) b.words ∙ ap (λ (z : List (List (List ℕ))). ws ∷ z) h

begins_so : (es : List Entry) (ws : List (List ℕ)) (wss : List (List (List ℕ))) → words_of es ≡ ws ∷ wss → Begin es ws × (words_of (others es) ≡ wss)
begins_so [] ws wss h = let z : ◌≡◌ {A = ℕ} 0 1 = cc in absurd (omega arith)
begins_so (e ∷ es) ws wss h = (record { first = e; parts = refl; words = cc }, cc)

-- what the lines of the settings say, before the requests
settings_say : (text : List ℕ) (s : Settings) (qs : List Ask) → settings_in (last_number 0 (pieces 10 text)) (entries 0 (pieces 10 text)) ≡ Ok s
    → AsksSpelled (words_of (after_settings (entries 0 (pieces 10 text)))) qs → Says text s qs
settings_say text s qs h asked =
    let es : List Entry = entries 0 (pieces 10 text) in
    let last : ℕ = last_number 0 (pieces 10 text) in
    let e1 : List Entry = others es in
    let e2 : List Entry = others e1 in
    let e3 : List Entry = others e2 in
    let e4 : List Entry = others e3 in
    let e5 : List Entry = others e4 in
    let e6 : List Entry = others e5 in
    let p = then_ok (setting_in Pile letter last es) _ s h in
    let r = then_ok (setting_in Regions (number 255) last e1) _ s p.1.1 in
    let i = then_ok (setting_in Interval (number 65535) last e2) _ s r.1.1 in
    let l = then_ok (setting_in Lines (number 65535) last e3) _ s i.1.1 in
    let n = then_ok (setting_in N (number 255) last e4) _ s l.1.1 in
    let f = then_ok (setting_in Life (number 4294967295) last e5) _ s n.1.1 in
    let k = then_ok (keys_in last e6) _ s f.1.1 in
    let same : record { pile = p.0.0; regions = r.0; interval = i.0; lines = l.0; n = n.0; life = f.0; keys = k.0 } ≡ s = ok_ok _ s k.1.1 in
    let ps = setting_sound Pile letter last es p.0 p.1.0 in
    let rs = setting_sound Regions (number 255) last e1 r.0 r.1.0 in
    let is = setting_sound Interval (number 65535) last e2 i.0 i.1.0 in
    let ls = setting_sound Lines (number 65535) last e3 l.0 l.1.0 in
    let ns = setting_sound N (number 255) last e4 n.0 n.1.0 in
    let fs = setting_sound Life (number 4294967295) last e5 f.0 f.1.0 in
    let ks = keys_sound last e6 k.0 k.1.0 in
    subst (λ (z : Settings). Says text z qs) same (record {
      pile = ps.0;
      regions = rs.0;
      interval = is.0;
      lines = ls.0;
      n = ns.0;
      life = fs.0;
      keys = ks.0;
      requests = words_of (after_settings es);
      whole = begun ps.1.0 (begun rs.1.0 (begun is.1.0 (begun ls.1.0 (begun ns.1.0 (begun fs.1.0 (begun ks.1.0 refl))))));
      pile_is = letter_ok ps.0 p.0 ps.1.1;
      regions_is = numeral_sound 255 rs.0 r.0 rs.1.1;
      interval_is = numeral_sound 65535 is.0 i.0 is.1.1;
      lines_is = numeral_sound 65535 ls.0 l.0 ls.1.1;
      n_is = numeral_sound 255 ns.0 n.0 ns.1.1;
      life_is = numeral_sound 4294967295 fs.0 f.0 fs.1.1;
      keys_are = ks.1.1;
      asks_are = asked;
    })

-- a text that says settings is read as these, and what is left are the requests
said_settings : (text : List ℕ) (s : Settings) (qs : List Ask) (x : Says text s qs)
    → (settings_in (last_number 0 (pieces 10 text)) (entries 0 (pieces 10 text)) ≡ Ok s) × (words_of (after_settings (entries 0 (pieces 10 text))) ≡ x.requests)
said_settings text s qs x =
    let es : List Entry = entries 0 (pieces 10 text) in
    let last : ℕ = last_number 0 (pieces 10 text) in
    let e1 : List Entry = others es in
    let e2 : List Entry = others e1 in
    let e3 : List Entry = others e2 in
    let e4 : List Entry = others e3 in
    let e5 : List Entry = others e4 in
    let e6 : List Entry = others e5 in
    let b0 = begins_so es _ _ x.whole in
    let b1 = begins_so e1 _ _ b0.1 in
    let b2 = begins_so e2 _ _ b1.1 in
    let b3 = begins_so e3 _ _ b2.1 in
    let b4 = begins_so e4 _ _ b3.1 in
    let b5 = begins_so e5 _ _ b4.1 in
    let b6 = begins_so e6 _ _ b5.1 in (
      then_go _ (setting_complete Pile letter last es x.pile (record { 0 = s.pile }) b0.0 (ap letter x.pile_is))
          ∙ then_go _ (setting_complete Regions (number 255) last e1 x.regions s.regions b1.0 (numeral_complete 255 x.regions s.regions x.regions_is))
          ∙ then_go _ (setting_complete Interval (number 65535) last e2 x.interval s.interval b2.0 (numeral_complete 65535 x.interval s.interval x.interval_is))
          ∙ then_go _ (setting_complete Lines (number 65535) last e3 x.lines s.lines b3.0 (numeral_complete 65535 x.lines s.lines x.lines_is))
          ∙ then_go _ (setting_complete N (number 255) last e4 x.n s.n b4.0 (numeral_complete 255 x.n s.n x.n_is))
          ∙ then_go _ (setting_complete Life (number 4294967295) last e5 x.life s.life b5.0 (numeral_complete 4294967295 x.life s.life x.life_is))
          ∙ then_go _ (keys_complete last e6 x.keys s.keys b6.0 x.keys_are),
      b6.1,
    )

-- soundness
script_says : (text : List ℕ) (x : Script) → script_of text ≡ Ok x → Says text x.settings x.asks × (length (file_of x) ≤ 65536)
script_says text x h =
    let es : List Entry = entries 0 (pieces 10 text) in
    let a = then_ok (settings_in (last_number 0 (pieces 10 text)) es) _ x h in
    let b = then_ok (asks_in 0 (after_settings es)) _ x a.1.1 in
    let t = asks_sound 0 (after_settings es) b.0 b.1.0 (omega arith) in
    let y = settings_say text a.0 b.0 a.1.0 t.0 in
    let le = t.1 in
    let len = file_length a.0 b.0 y.keys y.keys_are in
    let short : length (written [] 0 a.0 b.0) ≤ 65536 = omega arith in
    subst (λ (z : Script). Says text z.settings z.asks × (length (file_of z) ≤ 65536)) (ok_ok (record { settings = a.0; asks = b.0 }) x b.1.1) (y, short)

-- completeness
says_script : (text : List ℕ) (s : Settings) (qs : List Ask) → Says text s qs → length (written [] 0 s qs) ≤ 65536
    → script_of text ≡ Ok (record { settings = s; asks = qs })
says_script text s qs x le =
    let es : List Entry = entries 0 (pieces 10 text) in
    let c = said_settings text s qs x in
    let len = file_length s qs x.keys x.keys_are in
    let fit : 0 + length (asks_bytes qs) ≤ 65500 = omega arith in
    let asked : AsksSpelled (words_of (after_settings es)) qs = subst (λ (z : List (List (List ℕ))). AsksSpelled z qs) (sym c.1) x.asks_are in
    then_go _ c.0 ∙ then_go _ (asks_complete 0 (after_settings es) qs asked fit)

pub one_meaning : (text : List ℕ) → OneMeaning text
one_meaning text s s' qs qs' x y le le' =
    let e : record { settings = s; asks = qs } ≡ record { settings = s'; asks = qs' } = ok_ok _ _ (sym (says_script text s qs x le) ∙ says_script text s' qs' y le') in
    (ap (λ (z : Script). z.settings) e, ap (λ (z : Script). z.asks) e)

fault_says_nothing : (text : List ℕ) (f : Fault) → script_of text ≡ Err f → (s : Settings) (qs : List Ask) → Says text s qs → length (written [] 0 s qs) ≤ 65536 → ⊥
fault_says_nothing text f h s qs x le = ok_err (record { settings = s; asks = qs }) f (sym h ∙ says_script text s qs x le)

-- so an answer tells what the text says
pub exact : (text : List ℕ) (v : Vec ℕ Global) (r : Result (Unit {0}) Refusal) (w : Vec ℕ Global) → Composed text v r w → Exact text v r w
exact text v (Ok _) w x = let t = script_says text x.0 x.1.0 in (x.0.settings, (x.0.asks, (t.0, x.1.1, t.1)))
exact text v (Err NoMemory) w x = tt
exact text v (Err (Text f)) w x = fault_says_nothing text f x.0
