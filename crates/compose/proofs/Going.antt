-- A turn appends one request: what is left says what the whole says, after the requests so far.
use Rattle.std.proofs.Common.{◌≡◌, ℕ, ◌+◌, ◌≤◌, Bool, cond, leb, List, [], ◌∷◌, ◌++◌, length, Vec, Ok, Err, Result, sym, refl, ap, ◌∙◌, subst, append_assoc, append-nil, arith, length-append, le-leb}
use Rattle.std.proofs.lemmas.List.{length_push}
use Rattle.std.specs.declared.alloc.Global.{Global}
use Rattle.runfile.specs.Asks.{Ask}
use Rattle.runfile.specs.RunFile.{ask_bytes, asks_bytes}
use Rattle.compose.specs.declared.refusal.Fault.{Fault}
use Rattle.compose.specs.declared.refusal.Wrong.TheVariants.{TooLong}
use Rattle.compose.specs.declared.requests.Request.{Request}
use Rattle.compose.specs.declared.requests.Request.TheVariants.{Read, Write}
use Rattle.compose.specs.Bytes.{Puts}
use Rattle.compose.specs.Fields.{at, then, at_line, request_in, request_size, ask_of}
use Rattle.compose.specs.Lines.{Entry}
use Rattle.compose.specs.Scripts.{asks_in}
use Rattle.compose.proofs.Appending.{puts_none, puts_twice}

-- requests after those that are done
abbrev following : List Ask → Result (List Ask) Fault → Result (List Ask) Fault
following done (Ok qs) = Ok (done ++ qs)
following done (Err e) = Err e

-- from the entries es₀ and the vector v₀ to the entries es that are left and the vector v, with requests of this size and number
pub record Going (es₀ : List Entry) (v₀ : Vec ℕ Global) (es : List Entry) (v : Vec ℕ Global) (size number : ℕ) : Type 0 where
  pub done : List Ask
  pub says : asks_in 0 es₀ ≡ following done (asks_in size es)
  pub put : Puts v₀ (asks_bytes done) v
  pub long : size ≡ length (asks_bytes done)
  pub counted : number ≡ length done
  pub few : number ≤ size
  pub short : size ≤ 65500

following_none : (r : Result (List Ask) Fault) → r ≡ following [] r
following_none (Ok qs) = refl
following_none (Err e) = refl

following_more : (done : List Ask) (a : Ask) (r : Result (List Ask) Fault)
    → following done (then r (λ qs. Ok (a ∷ qs))) ≡ following (done ++ (a ∷ [])) r
following_more done a (Ok qs) = ap {B = Result (List Ask) Fault} Ok (sym (append_assoc done (a ∷ []) qs))
following_more done a (Err e) = refl

asks_bytes_push : (qs : List Ask) (a : Ask) → asks_bytes (qs ++ (a ∷ [])) ≡ asks_bytes qs ++ ask_bytes a
asks_bytes_push [] a = append-nil (ask_bytes a)
asks_bytes_push (q ∷ qs) a = ap (λ (l : List ℕ). ask_bytes q ++ l) (asks_bytes_push qs a) ∙ sym (append_assoc (ask_bytes q) (asks_bytes qs) (ask_bytes a))

pub length_ask : (q : Request) → length (ask_bytes (ask_of q)) ≡ request_size q
length_ask (Read line) = refl
length_ask (Write line load) = refl

size_some : (q : Request) → 1 ≤ request_size q
size_some (Read line) = omega arith
size_some (Write line load) = omega arith

pub going_none : (es : List Entry) (v : Vec ℕ Global) → Going es v es v 0 0
going_none es v = record {
  done = [];
  says = following_none (asks_in 0 es);
  put = puts_none v;
  long = refl;
  counted = refl;
  few = omega arith;
  short = omega arith;
}

-- what the first entry says, with what comes after it
abbrev after_first : ℕ → Entry → List Entry → Result Request Fault → Result (List Ask) Fault
after_first size e es r =
    then r (λ q. cond (leb (size + request_size q) 65500) (then (asks_in (size + request_size q) es) (λ qs. Ok (ask_of q ∷ qs))) (Err (at e.number TooLong)))

-- what the whole says, by what the first of the entries that are left says
turn : {es₀ es es' : List Entry} {v₀ v : Vec ℕ Global} {size number : ℕ} {e : Entry} {r : Result Request Fault} (g : Going es₀ v₀ es v size number)
    → es ≡ e ∷ es' → r ≡ at_line e.number (request_in e.words) → asks_in 0 es₀ ≡ following g.done (after_first size e es' r)
turn {es' = es'} {size = size} {e = e} g he hr =
    g.says ∙ ap (λ (z : List Entry). following g.done (asks_in size z)) he ∙ ap (λ (z : Result Request Fault). following g.done (after_first size e es' z)) (sym hr)

pub going_more : {es₀ es es' : List Entry} {v₀ v w : Vec ℕ Global} {size number : ℕ} {e : Entry} {q : Request}
    → Going es₀ v₀ es v size number → es ≡ e ∷ es' → Ok q ≡ at_line e.number (request_in e.words) → size + request_size q ≤ 65500 → Puts v (ask_bytes (ask_of q)) w
    → Going es₀ v₀ es' w (size + request_size q) (number + 1)
going_more {es' = es'} {v₀ = v₀} {w = w} {size = size} {e = e} {q = q} g he hq le p =
    let a : Ask = ask_of q in
    let some = size_some q in
    let push = asks_bytes_push g.done a in
    let lp : length (asks_bytes (g.done ++ (a ∷ []))) ≡ length (asks_bytes g.done) + length (ask_bytes a) = ap length push ∙ length-append (asks_bytes g.done) (ask_bytes a) in
    let lq = length_ask q in
    let ld = length_push g.done a in
    record {
      done = g.done ++ (a ∷ []);
      says =
          turn g he hq
          ∙ ap (λ (t : Bool). following g.done (cond t (then (asks_in (size + request_size q) es') (λ qs. Ok (a ∷ qs))) (Err (at e.number TooLong)))) (le-leb (size + request_size q) 65500 le)
          ∙ following_more g.done a (asks_in (size + request_size q) es');
      put = subst (λ (bs : List ℕ). Puts v₀ bs w) (sym push) (puts_twice g.put p);
      long = omega arith;
      counted = omega arith;
      few = omega arith;
      short = le;
    }
