-- What is true of the reader: it answers with what the file says, and else with a fault. Assumes nothing.
use Rattle.std.specs.Prelude.{◌≡◌, ℕ, ◌+◌, ◌≤◌, List, [], ◌∷◌, length, Ok, Err, Result}
use Rattle.runfile.specs.declared.fault.Fault.{Fault}
use Rattle.reader.specs.declared.reader.Run.{Run}
use Rattle.runfile.specs.declared.settings.Settings.{Settings}
use Rattle.runfile.specs.Asks.{Ask, read, write, Placed, asks}
use Rattle.reader.specs.Reading.{Reading, reading, requests_of}
use Rattle.runfile.specs.RunFile.{Says, written, SettingsFit, AsksFit}

-- what an answer `Ok` tells: the file says the run's settings, at the run's place, and the requests that are listed
pub record Told (f : List ℕ) (slots : ℕ) (run : Run) : Type 0 where
  pub says : Says f run.settings (asks (requests_of f))
  pub place : run.place ≡ length says.lead
  pub number : run.number ≡ length (asks (requests_of f))
  pub room : run.number ≤ slots

-- at a fault the file says nothing that has room in the slots
abbrev pub Exact : List ℕ → ℕ → Result Run Fault → Type 0
Exact f slots (Ok run) = Told f slots run
Exact f slots (Err e) = (s : Settings) (qs : List Ask) → Says f s qs → length qs ≤ slots → ⊥

-- a file says one thing at most
abbrev pub OneMeaning : List ℕ → Type 0
OneMeaning f = (s s' : Settings) (qs qs' : List Ask) → Says f s qs → Says f s' qs' → (s ≡ s') × (qs ≡ qs')

-- the asks at their places, the first at a place
abbrev pub ask_size : Ask → ℕ
ask_size (read line) = 3
ask_size (write line load) = 19

abbrev pub placed : ℕ → List Ask → List Placed
placed at [] = []
placed at (q ∷ qs) = record { place = at; ask = q } ∷ placed (at + ask_size q) qs

-- what is read of settings s at a place, with the requests qs after them
abbrev pub read_as : Settings → ℕ → List Ask → Reading
read_as s place qs = record { run = record { settings = s; place = place; number = length qs }; requests = placed (place + 20) qs }

-- what was written is read back
abbrev pub ReadBack : Type 0
ReadBack =
    (lead : List ℕ) (spare : ℕ) (s : Settings) (qs : List Ask) (slots : ℕ) → SettingsFit s → AsksFit qs
    → length (written lead spare s qs) ≤ 65536 → length qs ≤ slots
    → reading (written lead spare s qs) slots ≡ Ok (read_as s (length lead) qs)
