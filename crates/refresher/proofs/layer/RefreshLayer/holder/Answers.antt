use Rattle.refresher.proofs.Held.{sound_of}
use Rattle.refresher.proofs.layer.RefreshLayer.holder.Goals as goal

pub returns-then-place-count-clause-sound : goal.returns-then-place-count-clause-sound
returns-then-place-count-clause-sound g c = sound_of c.args.self.now.registers

pub returns-clause-sound : goal.returns-clause-sound
returns-clause-sound g c = sound_of c.args.self.now.registers
