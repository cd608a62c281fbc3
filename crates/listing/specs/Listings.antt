-- The text of a whole listing. Assumes nothing.
use Rattle.std.specs.Prelude.{ℕ, List, [], ◌∷◌, ◌++◌, codes}
use Rattle.listing.specs.declared.listing.Listing.{Listing}
use Rattle.listing.specs.declared.listing.Listing.TheVariants.{Faulty, Run}
use Rattle.runfile.specs.declared.slot.Slot.{Slot}
use Rattle.runfile.specs.Texts.{fault_text, slot_text}
use Rattle.runner.specs.Texts.{totals_text}

-- one line for each slot
abbrev pub slots_text : List Slot → List ℕ
slots_text [] = []
slots_text (s ∷ ss) = (slot_text s ++ codes "\n") ++ slots_text ss

abbrev pub listing_text : Listing → List ℕ
listing_text (Faulty fault) = fault_text fault ++ codes "\n"
listing_text (Run slots totals) = codes "no layer is fitted\n" ++ (slots_text slots.now ++ (totals_text totals ++ codes "\n"))
