use Rattle.std.proofs.Common.{◌<◌, length, arith}
use Rattle.medium.specs.Meaning.{means}
use Rattle.refresher.specs.Layer.{registers, refresh_lines}
use Rattle.refresher.proofs.Held.{held_of, sound_of}
use Rattle.refresher.proofs.Written.{read_answer}
use Rattle.refresher.proofs.layer.RefreshLayer.where_is.Goals as goal

pub returns-then-line-count-clause-sound : goal.returns-then-line-count-clause-sound
returns-then-line-count-clause-sound g c = sound_of c.args.self.now.registers

pub returns-clause-content : goal.returns-clause-content
returns-clause-content g c =
    let x = c.args.self.now in
    let b = means g.M.Medium x.below in
    let h : c.args.line < length (refresh_lines (registers x.registers) b) = omega arith in
    read_answer (held_of x) b c.args.line h c.place.result c.place.ensures.value

pub returns-clause-sound : goal.returns-clause-sound
returns-clause-sound g c = sound_of c.args.self.now.registers
