-- The fields of a line, taken from its words in turn. Assumes nothing.
use Rattle.std.specs.Prelude.{◌≡◌, ℕ, cond, List, [], ◌∷◌, Ok, Err, codes, Result}
use Rattle.std.specs.Borrow.{Bor}
use Rattle.std.specs.Str.{bytes_eq}
use Rattle.line.specs.Loads.{load_bytes}
use Rattle.line.specs.declared.load.Load.{Load}
use Rattle.runfile.specs.Asks.{Ask, read, write}
use Rattle.compose.specs.declared.requests.Request.{Request}
use Rattle.compose.specs.declared.requests.Request.TheVariants.{Read, Write}
use Rattle.compose.specs.declared.refusal.Fault.{Fault}
use Rattle.compose.specs.declared.refusal.Wrong.{Wrong}
use Rattle.compose.specs.declared.refusal.Wrong.TheVariants.{MissingWord, ExtraWord, UnknownRequest}
use Rattle.compose.specs.declared.text.Words.{Words}
use Rattle.compose.specs.Numerals.{number, integer}
use Rattle.compose.specs.Pieces.{words_of}

-- the fault of line n
abbrev pub at : ℕ → Wrong → Fault
at n w = record { line = n; wrong = w }

-- one thing, and then what depends on it: the first refusal is that of both
abbrev pub then : {E X Y : Type 0} → Result X E → (X → Result Y E) → Result Y E
then (Ok x) f = f x
then (Err e) f = Err e

-- what is wrong, as a fault of line n
abbrev pub at_line : {X : Type 0} → ℕ → Result X Wrong → Result X Fault
at_line n (Ok x) = Ok x
at_line n (Err w) = Err (at n w)

-- a word that was handed out
abbrev pub seen : Result (Bor (List ℕ)) Wrong → Result (List ℕ) Wrong
seen (Ok w) = Ok w.now
seen (Err e) = Err e

-- what the first of the words spells
abbrev pub first : {X : Type 0} → (List ℕ → Result X Wrong) → List (List ℕ) → Result X Wrong
first f [] = Err MissingWord
first f (w ∷ ws) = f w

abbrev pub tail : List (List ℕ) → List (List ℕ)
tail [] = []
tail (w ∷ ws) = ws

-- the first of the words is taken, and the answer is what it spells
pub record Takes {X : Type 0} (f : List ℕ → Result X Wrong) (before : Words) (answer : Result X Wrong) (after : Words) : Type 0 where
  pub spelled : answer ≡ first f (words_of before)
  pub left : words_of after ≡ tail (words_of before)

-- that no word is left
abbrev pub ended : List (List ℕ) → Result (Unit {0}) Wrong
ended [] = Ok tt
ended (w ∷ ws) = Err ExtraWord

-- what is left after the five words of a load
abbrev pub after_load : List (List ℕ) → List (List ℕ)
after_load ws = tail (tail (tail (tail (tail ws))))

-- a load: time, east, north, tonnes and activity
abbrev pub load_in : List (List ℕ) → Result Load Wrong
load_in ws =
    then (first (number 4294967295) ws) (λ time.
    then (first integer (tail ws)) (λ east.
    then (first integer (tail (tail ws))) (λ north.
    then (first (number 65535) (tail (tail (tail ws)))) (λ tonnes.
    then (first (number 255) (tail (tail (tail (tail ws))))) (λ activity.
    Ok (record { time = time; east = east; north = north; tonnes = tonnes; activity = record { 0 = activity } }))))))

-- a request to read a line, and one to write a load to a line
abbrev pub read_in : List (List ℕ) → Result Request Wrong
read_in ws = then (first (number 65535) ws) (λ line. then (ended (tail ws)) (λ _. Ok (Read line)))

abbrev pub write_in : List (List ℕ) → Result Request Wrong
write_in ws =
    then (first (number 65535) ws) (λ line.
    then (load_in (tail ws)) (λ load.
    then (ended (after_load (tail ws))) (λ _. Ok (Write line load))))

-- a request by its first word, r or w
abbrev pub request_in : List (List ℕ) → Result Request Wrong
request_in ws =
    then (first Ok ws) (λ name.
    cond (bytes_eq name (codes "r")) (read_in (tail ws))
    (cond (bytes_eq name (codes "w")) (write_in (tail ws)) (Err UnknownRequest)))

-- what a request asks, with its load as bytes
abbrev pub ask_of : Request → Ask
ask_of (Read line) = read line
ask_of (Write line load) = write line (load_bytes load)

-- how many bytes it has in a run file
abbrev pub request_size : Request → ℕ
request_size (Read line) = 3
request_size (Write line load) = 19
