-- A load as bytes, and as text. Assumes nothing.
use Rattle.std.specs.Prelude.{ℕ, ◌^◌, ◌<◌, List, [], ◌∷◌, ◌++◌, FitsSigned, codes, decimal, slice_index}
use Rattle.std.proofs.Common.{of_z, to_z}
use Rattle.std.specs.Fmt.{signed_decimal}
use Rattle.std.specs.Int.{w32}
use Rattle.line.specs.Words.{at16, at32, bytes16, bytes32}
use Rattle.line.specs.declared.load.Load.{Load}

-- each field is of its own width, as it is in every load that a program holds
abbrev pub LoadFits : Load → Type 0
LoadFits l =
    (l.time < 2 ^ 32) × FitsSigned w32 l.east × FitsSigned w32 l.north × (l.tonnes < 2 ^ 16) × (l.activity.0 < 2 ^ 8)

-- time at 0, east at 4, north at 8, tonnes at 12, activity at 14, and a spare byte, written 0
abbrev pub load_bytes : Load → List ℕ
load_bytes l =
    bytes32 l.time ++ (bytes32 (of_z w32 l.east) ++ (bytes32 (of_z w32 l.north) ++ (bytes16 l.tonnes ++ (l.activity.0 ∷ 0 ∷ []))))

-- the load that the bytes spell; the spare byte is not looked at
abbrev pub load_of : List ℕ → Load
load_of bs = record {
  time = at32 bs 0;
  east = to_z w32 (at32 bs 4);
  north = to_z w32 (at32 bs 8);
  tonnes = at16 bs 12;
  activity = record { 0 = slice_index bs 14 };
}

-- the five fields of a load, with a space between them
abbrev pub load_text : Load → List ℕ
load_text l =
    decimal l.time ++ (codes " " ++ (signed_decimal l.east ++ (codes " " ++ (signed_decimal l.north ++ (codes " " ++ (decimal l.tonnes ++ (codes " " ++ decimal l.activity.0)))))))
