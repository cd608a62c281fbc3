-- The two lemmas of a line's place, by the key that places it.
use Rattle.std.proofs.Common.{refl}
use Rattle.refresh.proofs.Places.{place_current, place_previous}
use Rattle.refresh.proofs.theorems.mapping_in_full.Goals as goal

pub returns : goal.returns
returns c = record { mapping = λ w a. (refl, place_current w a, λ h k. place_previous w a (h, k)) }
