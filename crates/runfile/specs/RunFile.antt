-- The format of run files: what a string of bytes says, and how a run is written. Assumes nothing.
use Rattle.std.specs.Prelude.{◌≡◌, ℕ, ◌+◌, ◌*◌, ◌^◌, ◌<◌, ◌≤◌, ◌⊎◌, List, [], ◌∷◌, ◌++◌, length, drop}
use Rattle.line.specs.Words.{at32, bytes16, bytes32}
use Rattle.runfile.specs.declared.settings.Settings.{Settings}
use Rattle.runfile.specs.Asks.{Ask, read, write}
use Rattle.runfile.specs.Layout.{settings_from, mark}

-- bs spell the request: its letter, its line in two bytes, the lowest first, and for a write sixteen bytes
abbrev pub Asked : Ask → List ℕ → Type 0
Asked (read line) bs = (lo : ℕ) × ((hi : ℕ) × ((bs ≡ 114 ∷ lo ∷ hi ∷ []) × (line ≡ lo + hi * 256)))
Asked (write line load) bs =
    (lo : ℕ) × ((hi : ℕ) × ((bs ≡ 119 ∷ lo ∷ hi ∷ load) × (line ≡ lo + hi * 256) × (length load ≡ 16)))

-- bs are the bytes of the requests, one after another with nothing between
abbrev pub Spelled : List Ask → List ℕ → Type 0
Spelled [] bs = bs ≡ []
Spelled (q ∷ qs) bs =
    (front : List ℕ) × ((rest : List ℕ) × ((bs ≡ front ++ rest) × Asked q front × Spelled qs rest))

-- A, B or C
abbrev pub PileLetter : ℕ → Type 0
PileLetter letter = (letter ≡ 65) ⊎ ((letter ≡ 66) ⊎ (letter ≡ 67))

-- the file says the settings s and the requests qs
pub record Says (file : List ℕ) (s : Settings) (qs : List Ask) : Type 0 where
  pub lead : List ℕ
  pub settings : List ℕ
  pub requests : List ℕ
  pub trailer : List ℕ
  pub whole : file ≡ lead ++ (settings ++ (requests ++ trailer))
  pub short : length file ≤ 65536
  pub twenty : length settings ≡ 20
  pub settled : s ≡ settings_from settings 0
  pub letter : PileLetter s.pile
  pub spelled : Spelled qs requests
  pub sixteen : length trailer ≡ 16
  pub to_settings : at32 trailer 0 ≡ length requests + 20
  pub to_requests : at32 trailer 4 ≡ length requests
  pub number : at32 trailer 8 ≡ length qs
  pub marked : drop 12 trailer ≡ mark

-- how a run is written: lead bytes, the settings with a spare byte, the requests, the trailer
abbrev pub keys_bytes : List ℕ → List ℕ
keys_bytes [] = []
keys_bytes (k ∷ ks) = bytes16 k ++ keys_bytes ks

abbrev pub settings_bytes : ℕ → Settings → List ℕ
settings_bytes spare s =
    s.pile ∷ s.regions ∷ (bytes16 s.interval ++ (bytes16 s.lines ++ (s.n ∷ spare ∷ (bytes32 s.life ++ keys_bytes s.keys))))

abbrev pub ask_bytes : Ask → List ℕ
ask_bytes (read line) = 114 ∷ bytes16 line
ask_bytes (write line load) = 119 ∷ (bytes16 line ++ load)

abbrev pub asks_bytes : List Ask → List ℕ
asks_bytes [] = []
asks_bytes (q ∷ qs) = ask_bytes q ++ asks_bytes qs

-- of requests of this many bytes, and of this number
abbrev pub trailer_bytes : ℕ → ℕ → List ℕ
trailer_bytes size number = bytes32 (size + 20) ++ (bytes32 size ++ (bytes32 number ++ mark))

abbrev pub written : List ℕ → ℕ → Settings → List Ask → List ℕ
written lead spare s qs =
    lead ++ (settings_bytes spare s ++ (asks_bytes qs ++ trailer_bytes (length (asks_bytes qs)) (length qs)))

-- the numbers fit their widths
abbrev pub KeysFit : List ℕ → Type 0
KeysFit [] = Unit {0}
KeysFit (k ∷ ks) = (k < 2 ^ 16) × KeysFit ks

pub record SettingsFit (s : Settings) : Type 0 where
  pub letter : PileLetter s.pile
  pub regions : s.regions < 2 ^ 8
  pub interval : s.interval < 2 ^ 16
  pub lines : s.lines < 2 ^ 16
  pub n : s.n < 2 ^ 8
  pub life : s.life < 2 ^ 32
  pub four : length s.keys ≡ 4
  pub keys : KeysFit s.keys

abbrev pub AskFits : Ask → Type 0
AskFits (read line) = line < 2 ^ 16
AskFits (write line load) = (line < 2 ^ 16) × (length load ≡ 16)

abbrev pub AsksFit : List Ask → Type 0
AsksFit [] = Unit {0}
AsksFit (q ∷ qs) = AskFits q × AsksFit qs
