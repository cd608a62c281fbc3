-- The file is long enough for a trailer, and the letters at its end are the mark.
use Rattle.std.proofs.Common.{◌≤◌, length, arith, rules}
use Rattle.std.proofs.lemmas.Grind.{common_steps}
use Rattle.reader.proofs.Places.{ends_marked}
use Rattle.reader.proofs.reader.read_trailer.Goals as goal

pub returns : goal.returns
returns c =
    let marked = ends_marked c.args.file.now c.if-not-ends_with.ensures.value in
    grind (arith, common_steps, marked)

pub returns-then-distance-trailer : goal.returns-then-distance-trailer
returns-then-distance-trailer c =
    let long : 36 ≤ length c.args.file.now = search rules in
    let marked = ends_marked c.args.file.now c.if-not-ends_with.ensures.value in
    grind (arith, common_steps, marked)
