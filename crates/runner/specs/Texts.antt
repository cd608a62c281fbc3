-- Totals as text. Assumes nothing.
use Rattle.std.specs.Prelude.{ℕ, List, ◌++◌, codes, decimal}
use Rattle.runner.specs.declared.totals.Totals.{Totals}

abbrev pub totals_text : Totals → List ℕ
totals_text t =
    codes "taken " ++ (decimal t.taken ++ (codes " left " ++ (decimal t.left ++ (codes " copies " ++ (decimal t.copies ++ (codes " wear " ++ decimal t.wear))))))
