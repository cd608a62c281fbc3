use Rattle.std.proofs.Common.{length, arith}
use Rattle.medium.proofs.Piles.{served_bottom}
use Rattle.medium.proofs.Arrays.{fetched_past}
use Rattle.media.specs.Bytes.{lines_in}
use Rattle.media.proofs.Chunked.{line_room, part_at, line_read}
use Rattle.media.proofs.bytes.ByteMediumMedium.read.Goals as goal

pub returns-then-line-count : goal.returns-then-line-count
returns-then-line-count g c =
    let m = c.args.self.now in
    record { answer = fetched_past (lines_in g.K.LineKind.reading g.K.LineKind.width (length m.counts.now) m.bytes.now) c.args.line (omega arith); below = served_bottom _ _ _ _ }

pub slice_bounds-read_from-end : goal.slice_bounds-read_from-end
slice_bounds-read_from-end g c =
    let m = c.args.self.now in
    let room = line_room g.K.LineKind.reading g.K.LineKind.width c.width-width.result (length m.counts.now) c.args.line m.bytes.now (omega arith) c.width-width.ensures in
    omega arith

pub returns : goal.returns
returns g c =
    let m = c.args.self.now in
    let at = part_at c.args.line c.width-width.result g.K.LineKind.width m.bytes.now c.width-width.ensures in
    record {
      answer = line_read g.K.LineKind.reading g.K.LineKind.width (length m.counts.now) c.args.line m.bytes.now _ _ _ (omega arith) at c.read_from.ensures.answer;
      below = served_bottom _ _ _ _;
    }
