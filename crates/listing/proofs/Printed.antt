-- Lines that are printed one after another: the text of one slot more is appended to that of the slots before it.
use Rattle.std.proofs.Common.{◌≡◌, ℕ, ◌+◌, ◌<◌, ◌≤◌, List, [], ◌∷◌, ◌++◌, length, get_or, take, None, codes, sym, refl, ap, ◌∙◌, append_assoc, append-nil}
use Rattle.std.proofs.lemmas.List.{take_more, take_all}
use Rattle.std.proofs.Output.{writes_in_calls_nil, has_written_append, has_written_of_eq}
use Rattle.std.specs.Fmt.{IsPlainFormatter, HasWritten}
use Rattle.std.specs.declared.fmt.Formatter.{Formatter}
use Rattle.runfile.specs.declared.slot.Slot.{Slot}
use Rattle.runfile.specs.declared.slot.Tag.TheVariants.{Read}
use Rattle.runfile.specs.Texts.{slot_text}
use Rattle.listing.specs.Listings.{slots_text}

-- the element that stands for one past the end
abbrev pub no_slot : Slot
no_slot = record { tag = Read; line = 0; place = 0; answer = None }

slots_text_append : (xs ys : List Slot) → slots_text (xs ++ ys) ≡ slots_text xs ++ slots_text ys
slots_text_append [] ys = refl
slots_text_append (x ∷ xs) ys =
    ap (λ (l : List ℕ). (slot_text x ++ codes "\n") ++ l) (slots_text_append xs ys) ∙ sym (append_assoc (slot_text x ++ codes "\n") (slots_text xs) (slots_text ys))

module _ {W : Type 0} (took : W → List ℕ → W → Type 0) where
  pub put_none : (f : Formatter W) → IsPlainFormatter f → HasWritten took f [] f
  put_none f p = record { wrote = writes_in_calls_nil took f.writer; plain = p }

  pub put_line : (f g h : Formatter W) (ss : List Slot) (i : ℕ) (d : Slot) → i < length ss
      → HasWritten took f (slots_text (take i ss)) g → HasWritten took g (slot_text (get_or ss i d) ++ codes "\n") h → HasWritten took f (slots_text (take (i + 1) ss)) h
  put_line f g h ss i d lt p q =
      let t : slots_text (take (i + 1) ss) ≡ slots_text (take i ss) ++ (slot_text (get_or ss i d) ++ codes "\n") =
      ap slots_text (take_more ss i d lt) ∙ slots_text_append (take i ss) (get_or ss i d ∷ [])
      ∙ ap (λ (l : List ℕ). slots_text (take i ss) ++ l) (append-nil (slot_text (get_or ss i d) ++ codes "\n")) in
      has_written_of_eq took f _ _ h (sym t) (has_written_append took f _ g _ h p q)

  pub put_all : (f g : Formatter W) (ss : List Slot) (i : ℕ) → length ss ≤ i → HasWritten took f (slots_text (take i ss)) g → HasWritten took f (slots_text ss) g
  put_all f g ss i le p = has_written_of_eq took f _ _ g (ap slots_text (take_all i ss le)) p
