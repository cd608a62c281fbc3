use Rattle.medium.proofs.Layers.{paid_least}
use Rattle.refresher.proofs.layer.RefreshLayerMedium.taken.Goals as goal

pub returns-clause-bound : goal.returns-clause-bound
returns-clause-bound g c = paid_least _ _ _ _ c.args.self.now.within
