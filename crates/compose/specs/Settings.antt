-- The lines of the settings: seven, in this order. Assumes nothing.
use Rattle.std.specs.Prelude.{ℕ, Bool, false, cond, List, [], ◌∷◌, Ok, Err, codes, Result}
use Rattle.std.specs.Str.{bytes_eq}
use Rattle.runfile.specs.declared.settings.Settings.{Settings}
use Rattle.compose.specs.declared.fields.Letter.{Letter}
use Rattle.compose.specs.declared.refusal.Fault.{Fault}
use Rattle.compose.specs.declared.refusal.Setting.{Setting}
use Rattle.compose.specs.declared.refusal.Setting.TheVariants.{Pile, Regions, Interval, Lines, N, Life, Keys}
use Rattle.compose.specs.declared.refusal.Wrong.{Wrong}
use Rattle.compose.specs.declared.refusal.Wrong.TheVariants.{Expected, NotALetter}
use Rattle.compose.specs.Fields.{at, then, at_line, first, tail, ended}
use Rattle.compose.specs.Lines.{Entry}
use Rattle.compose.specs.Numerals.{number}

-- the word with which a line begins
abbrev pub name_of : Setting → List ℕ
name_of Pile = codes "pile"
name_of Regions = codes "regions"
name_of Interval = codes "interval"
name_of Lines = codes "lines"
name_of N = codes "n"
name_of Life = codes "life"
name_of Keys = codes "keys"

abbrev pub begins : List (List ℕ) → List ℕ → Bool
begins [] name = false
begins (w ∷ ws) name = bytes_eq w name

-- the words after the name of the first entry, which is to be the line of this setting; a text that ends before it is refused at its last line
abbrev pub named : Setting → ℕ → List Entry → Result Entry Fault
named s last [] = Err (at last (Expected s))
named s last (e ∷ es) =
    cond (begins e.words (name_of s)) (Ok (record { number = e.number; words = tail e.words })) (Err (at e.number (Expected s)))

-- the entries after the first
abbrev pub others : List Entry → List Entry
others [] = []
others (e ∷ es) = es

-- a pile's letter is any one byte
abbrev pub letter : List ℕ → Result Letter Wrong
letter [] = Err NotALetter
letter (b ∷ []) = Ok (record { 0 = b })
letter (b ∷ c ∷ bs) = Err NotALetter

-- what the only word spells
abbrev pub lone : {X : Type 0} → (List ℕ → Result X Wrong) → List (List ℕ) → Result X Wrong
lone f ws = then (first f ws) (λ x. then (ended (tail ws)) (λ _. Ok x))

-- four numbers
abbrev pub four_in : List (List ℕ) → Result (List ℕ) Wrong
four_in ws =
    then (first (number 65535) ws) (λ a.
    then (first (number 65535) (tail ws)) (λ b.
    then (first (number 65535) (tail (tail ws))) (λ c.
    then (first (number 65535) (tail (tail (tail ws)))) (λ d.
    then (ended (tail (tail (tail (tail ws))))) (λ _. Ok (a ∷ b ∷ c ∷ d ∷ []))))))

-- a setting that is one word
abbrev pub setting_in : {X : Type 0} → Setting → (List ℕ → Result X Wrong) → ℕ → List Entry → Result X Fault
setting_in s f last es = then (named s last es) (λ e. at_line e.number (lone f e.words))

-- the four keys
abbrev pub keys_in : ℕ → List Entry → Result (List ℕ) Fault
keys_in last es = then (named Keys last es) (λ e. at_line e.number (four_in e.words))

-- what is left after the seven lines
abbrev pub after_settings : List Entry → List Entry
after_settings es = others (others (others (others (others (others (others es))))))

abbrev pub settings_in : ℕ → List Entry → Result Settings Fault
settings_in last es =
    then (setting_in Pile letter last es) (λ pile.
    then (setting_in Regions (number 255) last (others es)) (λ regions.
    then (setting_in Interval (number 65535) last (others (others es))) (λ interval.
    then (setting_in Lines (number 65535) last (others (others (others es)))) (λ lines.
    then (setting_in N (number 255) last (others (others (others (others es))))) (λ n.
    then (setting_in Life (number 4294967295) last (others (others (others (others (others es)))))) (λ life.
    then (keys_in last (others (others (others (others (others (others es))))))) (λ keys.
    Ok (record { pile = pile.0; regions = regions; interval = interval; lines = lines; n = n; life = life; keys = keys }))))))))
