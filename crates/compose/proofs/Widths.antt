-- What a text says fits the widths of a run file: each numeral is within the range of its field.
use Rattle.std.proofs.Common.{◌≡◌, ℕ, ◌^◌, ◌<◌, List, [], ◌∷◌, length, sym, refl, ap, ◌∙◌, subst, arith}
use Rattle.line.specs.Loads.{load_bytes}
use Rattle.line.specs.declared.load.Load.{Load}
use Rattle.runfile.specs.Asks.{Ask, read, write}
use Rattle.runfile.specs.RunFile.{KeysFit, AskFits, AsksFit}
use Rattle.compose.specs.Says.{Numeral, KeysSpelled, AskSpelled, AsksSpelled, Fitting}

in_byte : (w : List ℕ) (n : ℕ) → Numeral 255 w n → n < 2 ^ 8
in_byte w n x = let b = x.bound in omega arith

in_half : (w : List ℕ) (n : ℕ) → Numeral 65535 w n → n < 2 ^ 16
in_half w n x = let b = x.bound in omega arith

in_word : (w : List ℕ) (n : ℕ) → Numeral 4294967295 w n → n < 2 ^ 32
in_word w n x = let b = x.bound in omega arith

keys_fit : (ws : List (List ℕ)) (ks : List ℕ) → KeysSpelled ws ks → KeysFit ks × (length ks ≡ 4)
keys_fit ws ks x =
    let y = x.1.1.1.1 in
    let p = y.1.1.1.1 in (
      subst KeysFit (sym p.1) (in_half x.0 y.0 p.2, (in_half x.1.0 y.1.0 p.3, (in_half x.1.1.0 y.1.1.0 p.4, (in_half x.1.1.1.0 y.1.1.1.0 p.5, tt)))),
      ap length p.1,
    )

long_load : (l : Load) → length (load_bytes l) ≡ 16
long_load l = refl

ask_fits : (ws : List (List ℕ)) (q : Ask) → AskSpelled ws q → AskFits q
ask_fits ws (read line) x = in_half x.0 line x.1.1
ask_fits ws (write line bytes) x =
    let p = x.1.1.1 in
    (in_half x.0 line p.1, ap length p.3 ∙ long_load x.1.1.0)

asks_fit : (wss : List (List (List ℕ))) (qs : List Ask) → AsksSpelled wss qs → AsksFit qs
asks_fit [] [] x = tt
asks_fit [] (q ∷ qs) x = absurd x
asks_fit (ws ∷ wss) [] x = tt
asks_fit (ws ∷ wss) (q ∷ qs) x = (ask_fits ws q x.0, asks_fit wss qs x.1)

pub fitting : (text : List ℕ) → Fitting text
fitting text s qs x letter =
    let k = keys_fit x.keys s.keys x.keys_are in (
      record {
        letter = letter;
        regions = in_byte x.regions s.regions x.regions_is;
        interval = in_half x.interval s.interval x.interval_is;
        lines = in_half x.lines s.lines x.lines_is;
        n = in_byte x.n s.n x.n_is;
        life = in_word x.life s.life x.life_is;
        four = k.1;
        keys = k.0;
      },
      asks_fit x.requests qs x.asks_are,
    )
