-- Lines and words: what stands between newlines, and what stands between spaces. Assumes nothing.
use Rattle.std.specs.Prelude.{◌≡◌, ℕ, ◌<◌, cond, List, [], ◌∷◌, ◌++◌, length, Some, None, Option, ◌==◌, ◌≢◌}
use Rattle.std.specs.Borrow.{Bor}
use Rattle.compose.specs.declared.text.Pieces.{Pieces}
use Rattle.compose.specs.declared.text.Words.{Words}

-- b put before the first piece
abbrev pub onto : ℕ → List (List ℕ) → List (List ℕ)
onto b [] = (b ∷ []) ∷ []
onto b (p ∷ ps) = (b ∷ p) ∷ ps

-- the pieces between the stops: one more than there are stops
abbrev pub pieces : ℕ → List ℕ → List (List ℕ)
pieces stop [] = [] ∷ []
pieces stop (b ∷ bs) = cond (b == stop) ([] ∷ pieces stop bs) (onto b (pieces stop bs))

-- pieces put together again, with a stop between two
abbrev pub stopped : ℕ → List (List ℕ) → List ℕ
stopped stop [] = []
stopped stop (p ∷ ps) = stop ∷ (p ++ stopped stop ps)

abbrev pub rejoined : ℕ → List (List ℕ) → List ℕ
rejoined stop [] = []
rejoined stop (p ∷ ps) = p ++ stopped stop ps

-- no piece holds a stop
abbrev pub Without : ℕ → List ℕ → Type 0
Without stop [] = Unit {0}
Without stop (b ∷ bs) = (b ≢ stop) × Without stop bs

abbrev pub AllWithout : ℕ → List (List ℕ) → Type 0
AllWithout stop [] = Unit {0}
AllWithout stop (p ∷ ps) = Without stop p × AllWithout stop ps

-- what pieces are: they hold no stop and give the bytes again, and no others do
abbrev pub Cuts : Type 0
Cuts =
    (stop : ℕ) (bs : List ℕ)
    → AllWithout stop (pieces stop bs) × (rejoined stop (pieces stop bs) ≡ bs)
    × ((ps : List (List ℕ)) → 0 < length ps → AllWithout stop ps → rejoined stop ps ≡ bs → ps ≡ pieces stop bs)

-- those that are not empty
abbrev pub some : List (List ℕ) → List (List ℕ)
some [] = []
some ([] ∷ ps) = some ps
some ((b ∷ p) ∷ ps) = (b ∷ p) ∷ some ps

-- the words of a line, with one or more spaces between them
abbrev pub words : List ℕ → List (List ℕ)
words line = some (pieces 32 line)

-- the pieces of what is left after a stop, if there was one
abbrev pub pieces_left : ℕ → Option (Bor (List ℕ)) → List (List ℕ)
pieces_left stop None = []
pieces_left stop (Some bs) = pieces stop bs.now

abbrev pub pieces_of : Pieces → List (List ℕ)
pieces_of p = pieces_left p.stop p.rest

abbrev pub words_of : Words → List (List ℕ)
words_of w = some (pieces_of w.pieces)
