use Rattle.std.proofs.Common.{sym, refl, ap}
use Rattle.std.proofs.Output.{has_written_append, has_written_of_eq}
use Rattle.listing.specs.Listings.{listing_text}
use Rattle.listing.proofs.listing.ListingDisplay.fmt.Goals as goal

pub returns-in_ok-requests-in-Run-clause-writes : goal.returns-in_ok-requests-in-Run-clause-writes
returns-in_ok-requests-in-Run-clause-writes g c plain ok =
    let took = g.W.Write.write_str_gives in
    let first = c.in_ok-writeln-in-Run.ensures.writes plain refl in
    let middle = c.in_ok-requests-in-Run.ensures first.plain refl in
    let last = c.writeln-in-Run-2.ensures.writes middle.plain ok in
    has_written_of_eq took _ _ _ _ (sym (ap listing_text c.in-Run.is)) (has_written_append took _ _ _ _ _ first (has_written_append took _ _ _ _ _ middle last))
