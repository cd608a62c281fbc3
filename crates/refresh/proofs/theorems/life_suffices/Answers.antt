-- The lemmas of the life.
use Rattle.refresh.proofs.Lives.{life_greatest, life_only, life_covers}
use Rattle.refresh.proofs.theorems.life_suffices.Goals as goal

pub returns : goal.returns
returns c = record { life = record { computed = life_greatest; only = life_only; covers = life_covers } }
