-- Newly fitted piles, by the ghost members of what they are. Assumes nothing.
use Rattle.medium.specs.Law.{Fitted}
use Rattle.medium.specs.Meaning.{means}
use Rattle.medium.specs.declared.medium.Medium.{Ghosts}

-- each layer of the medium m has just been made; a bottom is in any state
abbrev pub IsFitted : {M A : Type 0} → Ghosts M A → M → Type 0
IsFitted g m = Fitted (means g m) (g.wear m) (g.pile m)
