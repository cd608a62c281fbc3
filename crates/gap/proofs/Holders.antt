-- Which line is at a place. A place of the regions is split into its region and the place within it, and the row says the rest.
use Rattle.std.proofs.Common.{◌≡◌, ℕ, ◌+◌, ◌<◌, Option, sym, ap, ◌∙◌}
use Rattle.startgap.specs.Rows.{row_holder}
use Rattle.startgap.specs.Regions.{Gaps, row_at, place_count, split_line, in_region, gap_holder}
use Rattle.startgap.proofs.Regions.{holder_below}

-- by the parts of the place
pub holder_parts : (g : Gaps) (place : ℕ) (q : ℕ × ℕ) (o : Option ℕ) → place < place_count g → q ≡ split_line (g.size + 1) place
    → o ≡ row_holder g.size (row_at g q.0) q.1 → in_region g.size q.0 o ≡ gap_holder g place
holder_parts g place q o h e eo =
    ap (λ z. in_region g.size q.0 z) eo
    ∙ ap (λ (z : ℕ × ℕ). in_region g.size z.0 (row_holder g.size (row_at g z.0) z.1)) e
    ∙ sym (holder_below g place h)
