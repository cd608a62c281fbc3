-- What is written says what it was written from: each number that fits its width is the sum of its bytes, and the parts have
-- the lengths that the trailer gives. So it is read back, by completeness.
use Rattle.std.proofs.Common.{◌≡◌, ℕ, ◌+◌, ◌*◌, ◌/◌, ◌%◌, ◌^◌, ◌<◌, ◌≤◌, List, [], ◌∷◌, ◌++◌, length, sym, refl, mod-eq_of_lt, arith, length-append}
use native.Mathlib.Nat.{div-div-eq-div-mul, mod-add-div'}
use Rattle.runfile.specs.declared.settings.Settings.{Settings}
use Rattle.runfile.specs.Asks.{Ask, read, write}
use Rattle.reader.specs.Laws.{ReadBack}
use Rattle.runfile.specs.Layout.{settings_from}
use Rattle.runfile.specs.RunFile.{Asked, Spelled, Says, written, settings_bytes, asks_bytes, ask_bytes, trailer_bytes, KeysFit, SettingsFit, AskFits, AsksFit}
use Rattle.reader.proofs.Completeness.{says_read}

back16 : (v : ℕ) → v < 2 ^ 16 → v ≡ v % 256 + v / 256 % 256 * 256
back16 v h = omega arith

back32 : (v : ℕ) → v < 2 ^ 32 → v ≡ v % 256 + v / 256 % 256 * 256 + v / 65536 % 256 * 65536 + v / 16777216 % 256 * 16777216
back32 v h =
    let a : ℕ = v / 256 in
    let b : ℕ = v / 65536 in
    let c : ℕ = v / 16777216 in
    let ab : a / 256 ≡ b = div-div-eq-div-mul v 256 256 in
    let bc : b / 256 ≡ c = div-div-eq-div-mul v 65536 256 in
    let e0 : v % 256 + a * 256 ≡ v = mod-add-div' v 256 in
    let e1 : a % 256 + a / 256 * 256 ≡ a = mod-add-div' a 256 in
    let e2 : b % 256 + b / 256 * 256 ≡ b = mod-add-div' b 256 in
    let e3 : c % 256 ≡ c = mod-eq_of_lt (omega arith) in
    omega arith

-- the settings, over their fields
settled_by : (pile regions interval lines n life spare : ℕ) (ks : List ℕ) → interval < 2 ^ 16 → lines < 2 ^ 16 → life < 2 ^ 32 → length ks ≡ 4 → KeysFit ks
    → (let s : Settings = record { pile = pile; regions = regions; interval = interval; lines = lines; n = n; life = life; keys = ks } in
    (s ≡ settings_from (settings_bytes spare s) 0) × (length (settings_bytes spare s) ≡ 20))
settled_by pile regions interval lines n life spare [] hi hl hf h4 hk = absurd (omega arith)
settled_by pile regions interval lines n life spare (k0 ∷ []) hi hl hf h4 hk = absurd (omega arith)
settled_by pile regions interval lines n life spare (k0 ∷ k1 ∷ []) hi hl hf h4 hk = absurd (omega arith)
settled_by pile regions interval lines n life spare (k0 ∷ k1 ∷ k2 ∷ []) hi hl hf h4 hk = absurd (omega arith)
settled_by pile regions interval lines n life spare (k0 ∷ k1 ∷ k2 ∷ k3 ∷ []) hi hl hf h4 hk =
    let ei = back16 interval hi in
    let el = back16 lines hl in
    let ef = back32 life hf in
    let e0 = back16 k0 hk.0 in
    let e1 = back16 k1 hk.1.0 in
    let e2 = back16 k2 hk.1.1.0 in
    let e3 = back16 k3 hk.1.1.1.0 in
    (cc, refl)
settled_by pile regions interval lines n life spare (k0 ∷ k1 ∷ k2 ∷ k3 ∷ k4 ∷ ks) hi hl hf h4 hk = absurd (omega arith)

-- the requests
ask_written : (q : Ask) → AskFits q → Asked q (ask_bytes q)
ask_written (read line) h = (line % 256, (line / 256 % 256, (refl, back16 line h)))
ask_written (write line load) h = (line % 256, (line / 256 % 256, (refl, back16 line h.0, h.1)))

asks_written : (qs : List Ask) → AsksFit qs → Spelled qs (asks_bytes qs)
asks_written [] h = refl
asks_written (q ∷ qs) h = (ask_bytes q, (asks_bytes qs, (refl, ask_written q h.0, asks_written qs h.1)))

ask_long : (q : Ask) → 1 ≤ length (ask_bytes q)
ask_long (read line) = omega arith
ask_long (write line load) = omega arith

number_le : (qs : List Ask) → length qs ≤ length (asks_bytes qs)
number_le [] = omega arith
number_le (q ∷ qs) = omega (arith, ask_long q, number_le qs, length-append (ask_bytes q) (asks_bytes qs))

pub written_says : (lead : List ℕ) (spare : ℕ) (s : Settings) (qs : List Ask) → SettingsFit s → AsksFit qs → length (written lead spare s qs) ≤ 65536
    → Says (written lead spare s qs) s qs
written_says lead spare s qs fs fq le =
    let sets : List ℕ = settings_bytes spare s in
    let reqs : List ℕ = asks_bytes qs in
    let tr : List ℕ = trailer_bytes (length reqs) (length qs) in
    let p = settled_by s.pile s.regions s.interval s.lines s.n s.life spare s.keys fs.interval fs.lines fs.life fs.four fs.keys in
    let la : length (lead ++ (sets ++ (reqs ++ tr))) ≡ length lead + length (sets ++ (reqs ++ tr)) = length-append lead (sets ++ (reqs ++ tr)) in
    let lb : length (sets ++ (reqs ++ tr)) ≡ length sets + length (reqs ++ tr) = length-append sets (reqs ++ tr) in
    let lc : length (reqs ++ tr) ≡ length reqs + 16 = length-append reqs tr in
    let ls : length sets ≡ 20 = p.1 in
    let w : length (lead ++ (sets ++ (reqs ++ tr))) ≤ 65536 = le in
    let lq : length qs ≤ length reqs = number_le qs in
    let lr : length reqs ≤ 65500 = omega arith in
    record {
      lead = lead;
      settings = sets;
      requests = reqs;
      trailer = tr;
      whole = refl;
      short = le;
      twenty = ls;
      settled = p.0;
      letter = fs.letter;
      spelled = asks_written qs fq;
      sixteen = refl;
      to_settings = sym (back32 (length reqs + 20) (omega arith));
      to_requests = sym (back32 (length reqs) (omega arith));
      number = sym (back32 (length qs) (omega arith));
      marked = refl;
    }

pub read_back : ReadBack
unfolding written_says
read_back lead spare s qs slots fs fq le room = says_read (written lead spare s qs) s qs slots (written_says lead spare s qs fs fq le) room
