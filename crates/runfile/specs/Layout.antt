-- The settings by position, and the letters that end a run file. Assumes nothing.
use Rattle.std.specs.Prelude.{ℕ, ◌+◌, Bool, ◌&&◌, ◌||◌, List, [], ◌∷◌, ◌==◌, slice_index}
use Rattle.line.specs.Words.{at16, at32}
use Rattle.runfile.specs.declared.settings.Settings.{Settings}

-- the settings that stand in bs from o on; the byte at 7 is not looked at
abbrev pub settings_from : List ℕ → ℕ → Settings
settings_from bs o = record {
  pile = slice_index bs o;
  regions = slice_index bs (o + 1);
  interval = at16 bs (o + 2);
  lines = at16 bs (o + 4);
  n = slice_index bs (o + 6);
  life = at32 bs (o + 8);
  keys = at16 bs (o + 12) ∷ at16 bs (o + 14) ∷ at16 bs (o + 16) ∷ at16 bs (o + 18) ∷ [];
}

-- A, B or C
abbrev pub known_pile : ℕ → Bool
known_pile letter = letter == 65 || (letter == 66 || letter == 67)

-- the letters RUN1
abbrev pub mark : List ℕ
mark = 82 ∷ 85 ∷ 78 ∷ 49 ∷ []

-- whether they stand in bs from o on
abbrev pub marked_at : List ℕ → ℕ → Bool
marked_at bs o =
    (slice_index bs o == 82) && (slice_index bs (o + 1) == 85 && (slice_index bs (o + 2) == 78 && slice_index bs (o + 3) == 49))
