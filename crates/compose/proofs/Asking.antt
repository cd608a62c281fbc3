-- A line of a request is read as what its words spell, and what is read is what they spell. A chain of fields that ends well gives each
-- field's word in turn.
use Rattle.std.proofs.Common.{◌≡◌, ℕ, Bool, true, false, cond, List, [], ◌∷◌, Ok, Err, codes, Result, sym, refl, ap, ◌∙◌, subst}
use Rattle.std.proofs.lemmas.Slice.Eq.{bytes_eq-Decides}
use Rattle.std.specs.Str.{bytes_eq}
use Rattle.line.specs.declared.load.Load.{Load}
use Rattle.runfile.specs.Asks.{Ask, read, write}
use Rattle.compose.specs.declared.refusal.Wrong.{Wrong}
use Rattle.compose.specs.declared.refusal.Wrong.TheVariants.{MissingWord, ExtraWord, UnknownRequest}
use Rattle.compose.specs.declared.requests.Request.{Request}
use Rattle.compose.specs.declared.requests.Request.TheVariants.{Read, Write}
use Rattle.compose.specs.Fields.{then, first, tail, ended, after_load, load_in, read_in, write_in, request_in, ask_of}
use Rattle.compose.specs.Numerals.{number, integer}
use Rattle.compose.specs.Says.{Numeral, LoadSpelled, AskSpelled}
use Rattle.compose.proofs.Numerals.{ok_err, ok_ok, numeral_sound, numeral_complete, integer_sound, integer_complete}

-- a chain that ends well
pub then_ok : {E X Y : Type 0} (r : Result X E) (f : X → Result Y E) (y : Y) → then r f ≡ Ok y → (x : X) × ((r ≡ Ok x) × (f x ≡ Ok y))
then_ok (Ok x) f y h = (x, (refl, h))
then_ok (Err e) f y h = absurd (ok_err y e h)

-- a chain goes on after what ends well
pub then_go : {E X Y : Type 0} {r : Result X E} {x : X} (f : X → Result Y E) → r ≡ Ok x → then r f ≡ f x
then_go f h = ap (λ (z : Result _ _). then z f) h

pub first_ok : {X : Type 0} (f : List ℕ → Result X Wrong) (ws : List (List ℕ)) (x : X) → first f ws ≡ Ok x
    → (w : List ℕ) × ((ws ≡ w ∷ tail ws) × (f w ≡ Ok x))
first_ok f [] x h = absurd (ok_err x MissingWord h)
first_ok f (w ∷ ws) x h = (w, (refl, h))

pub ended_ok : (ws : List (List ℕ)) (u : Unit {0}) → ended ws ≡ Ok u → ws ≡ []
ended_ok [] u h = refl
ended_ok (w ∷ ws) u h = absurd (ok_err u ExtraWord h)

-- the first of the words is a numeral, and the chain goes on after it
pub then_numeral : {Y : Type 0} (g : ℕ) (ws : List (List ℕ)) (f : ℕ → Result Y Wrong) (y : Y) → then (first (number g) ws) f ≡ Ok y
    → (n : ℕ) × ((w : List ℕ) × ((ws ≡ w ∷ tail ws) × Numeral g w n × (f n ≡ Ok y)))
then_numeral g ws f y h =
    let t = then_ok (first (number g) ws) f y h in
    let w = first_ok (number g) ws t.0 t.1.0 in
    (t.0, (w.0, (w.1.0, numeral_sound g w.0 t.0 w.1.1, t.1.1)))

-- loads
load_sound : (ws : List (List ℕ)) (l : Load) → load_in ws ≡ Ok l → after_load ws ≡ [] → LoadSpelled ws l
load_sound ws l h end =
    let t = then_numeral 4294967295 ws _ l h in
    let e = then_ok (first integer (tail ws)) _ l t.1.1.2 in
    let o = then_ok (first integer (tail (tail ws))) _ l e.1.1 in
    let w = then_numeral 65535 (tail (tail (tail ws))) _ l o.1.1 in
    let a = then_numeral 255 (tail (tail (tail (tail ws)))) _ l w.1.1.2 in
    let ew = first_ok integer (tail ws) e.0 e.1.0 in
    let ow = first_ok integer (tail (tail ws)) o.0 o.1.0 in
    subst (LoadSpelled ws) (ok_ok (record { time = t.0; east = e.0; north = o.0; tonnes = w.0; activity = record { 0 = a.0 } }) l a.1.1.2) (record {
      time = t.1.0;
      east = ew.0;
      north = ow.0;
      tonnes = w.1.0;
      activity = a.1.0;
      five = cc (t.1.1.0, ew.1.0, ow.1.0, w.1.1.0, a.1.1.0, end);
      time_is = t.1.1.1;
      east_is = integer_sound ew.0 e.0 ew.1.1;
      north_is = integer_sound ow.0 o.0 ow.1.1;
      tonnes_is = w.1.1.1;
      activity_is = a.1.1.1;
    })

load_complete : (ws : List (List ℕ)) (l : Load) → LoadSpelled ws l → (load_in ws ≡ Ok l) × (after_load ws ≡ [])
load_complete ws l x = (
  ap load_in x.five ∙ then_go _ (numeral_complete 4294967295 x.time l.time x.time_is)
      ∙ then_go _ (integer_complete x.east l.east x.east_is) ∙ then_go _ (integer_complete x.north l.north x.north_is)
      ∙ then_go _ (numeral_complete 65535 x.tonnes l.tonnes x.tonnes_is) ∙ then_go _ (numeral_complete 255 x.activity l.activity.0 x.activity_is),
  ap after_load x.five,
)

-- requests
read_sound : (ws ws' : List (List ℕ)) (q : Request) → ws ≡ codes "r" ∷ ws' → read_in ws' ≡ Ok q → AskSpelled ws (ask_of q)
read_sound ws ws' q e h =
    let l = then_numeral 65535 ws' _ q h in
    let d = then_ok (ended (tail ws')) _ q l.1.1.2 in
    let end : tail ws' ≡ [] = ended_ok (tail ws') d.0 d.1.0 in
    subst (λ (x : Request). AskSpelled ws (ask_of x)) (ok_ok (Read l.0) q d.1.1) (l.1.0, (cc (e, l.1.1.0, end), l.1.1.1))

write_sound : (ws ws' : List (List ℕ)) (q : Request) → ws ≡ codes "w" ∷ ws' → write_in ws' ≡ Ok q → AskSpelled ws (ask_of q)
write_sound ws ws' q e h =
    let l = then_numeral 65535 ws' _ q h in
    let o = then_ok (load_in (tail ws')) _ q l.1.1.2 in
    let d = then_ok (ended (after_load (tail ws'))) _ q o.1.1 in
    let end : after_load (tail ws') ≡ [] = ended_ok (after_load (tail ws')) d.0 d.1.0 in
    subst (λ (x : Request). AskSpelled ws (ask_of x)) (ok_ok (Write l.0 o.0) q d.1.1)
    (l.1.0, (tail ws', (o.0, (cc (e, l.1.1.0), l.1.1.1, load_sound (tail ws') o.0 o.1.0 end, refl))))

by_w : (ws : List (List ℕ)) (name : List ℕ) (q : Request) → ws ≡ name ∷ tail ws → (t : Bool) → bytes_eq name (codes "w") ≡ t
    → cond t (write_in (tail ws)) (Err UnknownRequest) ≡ Ok q → AskSpelled ws (ask_of q)
by_w ws name q e true s h =
    write_sound ws (tail ws) q (e ∙ ap (λ (z : List ℕ). z ∷ tail ws) ((bytes_eq-Decides name (codes "w")).0 s)) h
by_w ws name q e false s h = absurd (ok_err q UnknownRequest h)

by_r : (ws : List (List ℕ)) (name : List ℕ) (q : Request) → ws ≡ name ∷ tail ws → (t : Bool) → bytes_eq name (codes "r") ≡ t
    → cond t (read_in (tail ws)) (cond (bytes_eq name (codes "w")) (write_in (tail ws)) (Err UnknownRequest)) ≡ Ok q → AskSpelled ws (ask_of q)
by_r ws name q e true s h =
    read_sound ws (tail ws) q (e ∙ ap (λ (z : List ℕ). z ∷ tail ws) ((bytes_eq-Decides name (codes "r")).0 s)) h
by_r ws name q e false s h = by_w ws name q e (bytes_eq name (codes "w")) refl h

pub request_sound : (ws : List (List ℕ)) (q : Request) → request_in ws ≡ Ok q → AskSpelled ws (ask_of q)
request_sound ws q h =
    let m = then_ok (first Ok ws) _ q h in
    let w = first_ok Ok ws m.0 m.1.0 in
    let name : w.0 ≡ m.0 = ok_ok w.0 m.0 w.1.1 in
    by_r ws m.0 q (w.1.0 ∙ ap (λ (z : List ℕ). z ∷ tail ws) name) (bytes_eq m.0 (codes "r")) refl m.1.1

pub request_complete : (ws : List (List ℕ)) (a : Ask) → AskSpelled ws a → (q : Request) × ((request_in ws ≡ Ok q) × (ask_of q ≡ a))
request_complete ws (read line) x = (Read line, (ap request_in x.1.0 ∙ then_go _ (numeral_complete 65535 x.0 line x.1.1), refl))
request_complete ws (write line bytes) x =
    let load : Load = x.1.1.0 in
    let p = x.1.1.1 in
    let c = load_complete x.1.0 load p.2 in (
      Write line load,
      (
        ap request_in p.0 ∙ then_go _ (numeral_complete 65535 x.0 line p.1) ∙ then_go _ c.0 ∙ then_go _ (ap ended c.1),
        ap (write line) (sym p.3),
      ),
    )
