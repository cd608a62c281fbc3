use Rattle.std.proofs.Common.{take}
use Rattle.std.specs.Fmt.{IsPlainFormatter, HasWritten}
use Rattle.listing.specs.Listings.{slots_text}
use Rattle.listing.proofs.requests.requests.Given as goal

abbrev pub invariant-loop-slot : goal.invariant-loop-slot
invariant-loop-slot g l = IsPlainFormatter l.initial.f → HasWritten g.W.Write.write_str_gives l.initial.f (slots_text (take l.slot-index l.slots)) l.f
