-- The whole: the settings' lines and then the requests' give what the text says, and their bytes one after another are the run file.
use Rattle.std.proofs.Common.{◌≡◌, ℕ, List, ◌++◌, length, Ok, sym, ap, ◌∙◌, append_assoc}
use Rattle.runfile.specs.Asks.{Ask}
use Rattle.runfile.specs.RunFile.{asks_bytes, settings_bytes, trailer_bytes}
use Rattle.runfile.specs.declared.settings.Settings.{Settings}
use Rattle.compose.specs.declared.text.Lines.{Lines}
use Rattle.compose.specs.Lines.{Entry, entries, last_number}
use Rattle.compose.specs.Pieces.{pieces, pieces_of}
use Rattle.compose.specs.Scripts.{asks_in, script_in, script_of, file_of}
use Rattle.compose.specs.Settings.{settings_in, after_settings}
use Rattle.compose.specs.Taken.{lines_in, last_in}
use Rattle.compose.proofs.Asking.{then_go}

-- the lines of a text, none of which is taken yet
abbrev pub Opened : List ℕ → Lines → Type 0
Opened text l = (pieces_of l.pieces ≡ pieces 10 text) × (l.number ≡ 0)

opened_script : (text : List ℕ) (l : Lines) → Opened text l → script_of text ≡ script_in (last_in l) (lines_in l)
opened_script text l o =
    sym (ap (λ (ps : List (List ℕ)). script_in (last_number l.number ps) (entries l.number ps)) o.0
    ∙ ap (λ (n : ℕ). script_in (last_number n (pieces 10 text)) (entries n (pieces 10 text))) o.1)

-- the settings, and then the requests
pub script_is : (text : List ℕ) (l : Lines) (s : Settings) (es : List Entry) (qs : List Ask) → Opened text l → Ok s ≡ settings_in (last_in l) (lines_in l)
    → es ≡ after_settings (lines_in l) → asks_in 0 es ≡ Ok qs → script_of text ≡ Ok (record { settings = s; asks = qs })
script_is text l s es qs o h e a = opened_script text l o ∙ then_go _ (sym h) ∙ then_go _ (ap (asks_in 0) (sym e) ∙ a)

-- the bytes
pub file_is : (s : Settings) (qs : List Ask) (size number : ℕ) (xs ys zs ws : List ℕ) → ys ≡ xs ++ settings_bytes 0 s → zs ≡ ys ++ asks_bytes qs → ws ≡ zs ++ trailer_bytes size number
    → size ≡ length (asks_bytes qs) → number ≡ length qs → ws ≡ xs ++ file_of (record { settings = s; asks = qs })
file_is s qs size number xs ys zs ws h k m es en =
    let a : List ℕ = settings_bytes 0 s in
    let b : List ℕ = asks_bytes qs in
    let t : List ℕ = trailer_bytes size number in
    m ∙ ap (λ (z : List ℕ). z ++ t) (k ∙ ap (λ (z : List ℕ). z ++ b) h)
    ∙ append_assoc (xs ++ a) b t ∙ append_assoc xs a (b ++ t)
    ∙ ap (λ (n : ℕ). xs ++ (a ++ (b ++ trailer_bytes n number))) es
    ∙ ap (λ (n : ℕ). xs ++ (a ++ (b ++ trailer_bytes (length b) n))) en
