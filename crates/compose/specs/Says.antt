-- What a text says, told by how it is spelled: numerals, requests and settings in the words of its lines. Assumes nothing.
use Rattle.std.specs.Prelude.{◌≡◌, ℕ, ◌<◌, ◌≤◌, ◌⊎◌, List, [], ◌∷◌, ◌++◌, map, length, ℤ, pos, neg_ℤ, Ok, Err, vec_items, codes, Result, Vec}
use Rattle.std.specs.declared.alloc.Global.{Global}
use Rattle.line.specs.Loads.{load_bytes}
use Rattle.line.specs.declared.load.Load.{Load}
use Rattle.runfile.specs.Asks.{Ask, read, write}
use Rattle.runfile.specs.RunFile.{PileLetter, SettingsFit, AsksFit, written}
use Rattle.runfile.specs.declared.settings.Settings.{Settings}
use Rattle.compose.specs.declared.refusal.Refusal.{Refusal}
use Rattle.compose.specs.declared.refusal.Refusal.TheVariants.{NoMemory, Text}
use Rattle.compose.specs.Lines.{Entry, entries}
use Rattle.compose.specs.Numerals.{longer}
use Rattle.compose.specs.Pieces.{pieces}

-- decimal digits
abbrev pub Digits : List ℕ → Type 0
Digits [] = Unit {0}
Digits (b ∷ bs) = (48 ≤ b) × (b ≤ 57) × Digits bs

-- the number that they spell after the number v
abbrev pub value_after : ℕ → List ℕ → ℕ
value_after v [] = v
value_after v (b ∷ bs) = value_after (longer v b) bs

-- a word of digits spells n, which is no greater than this
pub record Numeral (greatest : ℕ) (w : List ℕ) (n : ℕ) : Type 0 where
  pub some : 0 < length w
  pub digits : Digits w
  pub value : n ≡ value_after 0 w
  pub bound : n ≤ greatest

-- a word spells a number of 32 bits, with a minus sign before its digits or without
abbrev pub Integer : List ℕ → ℤ → Type 0
Integer w z =
    ((n : ℕ) × (Numeral 2147483647 w n × (z ≡ pos n)))
    ⊎ ((ds : List ℕ) × ((n : ℕ) × ((w ≡ 45 ∷ ds) × Numeral 2147483648 ds n × (z ≡ neg_ℤ (pos n)))))

-- five words spell a load
pub record LoadSpelled (ws : List (List ℕ)) (l : Load) : Type 0 where
  pub time : List ℕ
  pub east : List ℕ
  pub north : List ℕ
  pub tonnes : List ℕ
  pub activity : List ℕ
  pub five : ws ≡ time ∷ east ∷ north ∷ tonnes ∷ activity ∷ []
  pub time_is : Numeral 4294967295 time l.time
  pub east_is : Integer east l.east
  pub north_is : Integer north l.north
  pub tonnes_is : Numeral 65535 tonnes l.tonnes
  pub activity_is : Numeral 255 activity l.activity.0

-- words spell a request: r LINE, or w LINE and a load
abbrev pub AskSpelled : List (List ℕ) → Ask → Type 0
AskSpelled ws (read line) = (w : List ℕ) × ((ws ≡ codes "r" ∷ w ∷ []) × Numeral 65535 w line)
AskSpelled ws (write line bytes) =
    (w : List ℕ) × ((fields : List (List ℕ)) × ((load : Load) × ((ws ≡ codes "w" ∷ w ∷ fields) × Numeral 65535 w line × LoadSpelled fields load × (bytes ≡ load_bytes load))))

-- each in turn
abbrev pub AsksSpelled : List (List (List ℕ)) → List Ask → Type 0
AsksSpelled [] [] = Unit {0}
AsksSpelled [] (q ∷ qs) = ⊥
AsksSpelled (ws ∷ wss) [] = ⊥
AsksSpelled (ws ∷ wss) (q ∷ qs) = AskSpelled ws q × AsksSpelled wss qs

-- four words spell the keys
abbrev pub KeysSpelled : List (List ℕ) → List ℕ → Type 0
KeysSpelled ws ks =
    (a : List ℕ) × ((b : List ℕ) × ((c : List ℕ) × ((d : List ℕ) × ((i : ℕ) × ((j : ℕ) × ((k : ℕ) × ((l : ℕ) ×
    ((ws ≡ a ∷ b ∷ c ∷ d ∷ []) × (ks ≡ i ∷ j ∷ k ∷ l ∷ []) × Numeral 65535 a i × Numeral 65535 b j × Numeral 65535 c k × Numeral 65535 d l))))))))

-- the words of every line of a text that says something
abbrev pub said : List ℕ → List (List (List ℕ))
said text = map (λ (e : Entry). e.words) (entries 0 (pieces 10 text))

-- the text says the settings s and the requests qs
pub record Says (text : List ℕ) (s : Settings) (qs : List Ask) : Type 0 where
  pub pile : List ℕ
  pub regions : List ℕ
  pub interval : List ℕ
  pub lines : List ℕ
  pub n : List ℕ
  pub life : List ℕ
  pub keys : List (List ℕ)
  pub requests : List (List (List ℕ))
  pub whole :
      said text ≡
      (codes "pile" ∷ pile ∷ []) ∷ (codes "regions" ∷ regions ∷ []) ∷ (codes "interval" ∷ interval ∷ []) ∷ (codes "lines" ∷ lines ∷ [])
      ∷ (codes "n" ∷ n ∷ []) ∷ (codes "life" ∷ life ∷ []) ∷ (codes "keys" ∷ keys) ∷ requests
  pub pile_is : pile ≡ s.pile ∷ []
  pub regions_is : Numeral 255 regions s.regions
  pub interval_is : Numeral 65535 interval s.interval
  pub lines_is : Numeral 65535 lines s.lines
  pub n_is : Numeral 255 n s.n
  pub life_is : Numeral 4294967295 life s.life
  pub keys_are : KeysSpelled keys s.keys
  pub asks_are : AsksSpelled requests qs

-- what an answer tells: a file is made of what the text says, and a fault is found only where it says nothing for which a file has room
abbrev pub Exact : List ℕ → Vec ℕ Global → Result (Unit {0}) Refusal → Vec ℕ Global → Type 0
Exact text v (Ok _) w =
    (s : Settings) × ((qs : List Ask) × (Says text s qs × (vec_items w ≡ vec_items v ++ written [] 0 s qs) × (length (written [] 0 s qs) ≤ 65536)))
Exact text v (Err NoMemory) w = Unit {0}
Exact text v (Err (Text e)) w = (s : Settings) (qs : List Ask) → Says text s qs → length (written [] 0 s qs) ≤ 65536 → ⊥

-- a text says one thing at most, of what fits a file
abbrev pub OneMeaning : List ℕ → Type 0
OneMeaning text =
    (s s' : Settings) (qs qs' : List Ask) → Says text s qs → Says text s' qs'
    → length (written [] 0 s qs) ≤ 65536 → length (written [] 0 s' qs') ≤ 65536 → (s ≡ s') × (qs ≡ qs')

-- what a text says fits the widths of a run file, where its pile is one of the three: so it is read back
abbrev pub Fitting : List ℕ → Type 0
Fitting text = (s : Settings) (qs : List Ask) → Says text s qs → PileLetter s.pile → SettingsFit s × AsksFit qs
