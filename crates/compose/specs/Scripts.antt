-- What a whole text says, and the run file that is made of it. Assumes nothing.
use Rattle.std.specs.Prelude.{ℕ, ◌+◌, cond, List, [], ◌∷◌, Ok, Err, Result, nat_le}
use Rattle.runfile.specs.Asks.{Ask}
use Rattle.runfile.specs.RunFile.{written}
use Rattle.runfile.specs.declared.settings.Settings.{Settings}
use Rattle.compose.specs.declared.refusal.Fault.{Fault}
use Rattle.compose.specs.declared.refusal.Wrong.TheVariants.{TooLong}
use Rattle.compose.specs.Fields.{at, then, at_line, request_in, request_size, ask_of}
use Rattle.compose.specs.Lines.{Entry, entries, last_number}
use Rattle.compose.specs.Pieces.{pieces}
use Rattle.compose.specs.Settings.{settings_in, after_settings}

-- the requests of the entries, after requests of this many bytes: all are at most 65,500 bytes, with which a run file has 65,536
abbrev pub asks_in : ℕ → List Entry → Result (List Ask) Fault
asks_in size [] = Ok []
asks_in size (e ∷ es) =
    then (at_line e.number (request_in e.words)) (λ q.
    cond (nat_le (size + request_size q) 65500)
    (then (asks_in (size + request_size q) es) (λ qs. Ok (ask_of q ∷ qs)))
    (Err (at e.number TooLong)))

-- settings and requests
pub record Script : Type 0 where
  pub settings : Settings
  pub asks : List Ask

abbrev pub script_in : ℕ → List Entry → Result Script Fault
script_in last es =
    then (settings_in last es) (λ s. then (asks_in 0 (after_settings es)) (λ qs. Ok (record { settings = s; asks = qs })))

-- what a text says, or the first fault in it
abbrev pub script_of : List ℕ → Result Script Fault
script_of text = script_in (last_number 0 (pieces 10 text)) (entries 0 (pieces 10 text))

-- the run file of a script
abbrev pub file_of : Script → List ℕ
file_of x = written [] 0 x.settings x.asks
