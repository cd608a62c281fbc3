-- The settings, the requests and the trailer, one after another.
use Rattle.compose.specs.Taken.{lines_in}
use Rattle.compose.proofs.Whole.{Opened, script_is, file_is}
use Rattle.compose.proofs.compose.append_run.Goals as goal

pub returns : goal.returns
returns c =
    let o : Opened c.args.text.now c.of-lines.result = (c.of-lines.ensures.lines, c.of-lines.ensures.number) in
    let a = c.in_ok-requests.ensures.answer in
    let s = c.in_ok-read_settings.ensures in
    let x = c.in_ok-requests.requests in
    let e = script_is c.args.text.now c.of-lines.result c.in_ok-read_settings.field-0 (lines_in c.read_settings.new.lines) a.0 o s.answer s.after a.1.0 in
    record {
      answer = (
        record { settings = c.in_ok-read_settings.field-0; asks = a.0 },
        (e, file_is c.in_ok-read_settings.field-0 a.0 x.size x.number _ _ _ _ c.put_settings.ensures.put.items a.1.1 c.put_trailer.ensures.put.items a.1.2 a.1.4),
      );
    }
