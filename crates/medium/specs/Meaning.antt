-- What a medium means, by its ghost members as one. Assumes nothing.
use Rattle.medium.specs.Array.{Array, array_of}
use Rattle.medium.specs.declared.medium.Medium.{Ghosts}

-- the array that the medium m means
abbrev pub means : {M A : Type 0} → Ghosts M A → M → Array A
means g m = array_of g.lines g.taken g.life m
