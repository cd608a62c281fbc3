use Rattle.std.proofs.Common.{length, sym, ap, arith}
use Rattle.media.proofs.Chunked.{lines_length, lines_none}
use Rattle.media.proofs.bytes.ByteMediumMedium.count.Goals as goal

pub returns-then-self-count : goal.returns-then-self-count
returns-then-self-count g c =
    let m = c.args.self.now in
    record { answer = sym (lines_length g.K.LineKind.reading g.K.LineKind.width c.width.result (length m.counts.now) m.bytes.now c.width.ensures (omega arith)); bound = m.few }

pub returns-else-self-count : goal.returns-else-self-count
returns-else-self-count g c =
    let m = c.args.self.now in
    record { answer = sym (ap length (lines_none g.K.LineKind.reading g.K.LineKind.width c.width.result (length m.counts.now) m.bytes.now c.width.ensures c.if-self-count.false)); bound = omega arith }
