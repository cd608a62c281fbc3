-- Pieces hold no stop and give the bytes again, and no others do. By recursion over the bytes, and over the first piece.
use Rattle.std.proofs.Common.{◌≡◌, ℕ, ◌<◌, Bool, true, false, cond, eqb, List, [], ◌∷◌, ◌++◌, length, sym, refl, ap, ◌∙◌, arith, eq-eqb, ne_eqb, eqb-true}
use borrow.Author.Tests.{eqb-false}
use Rattle.compose.specs.Pieces.{onto, pieces, stopped, rejoined, Without, AllWithout, Cuts}

-- what is true of pieces of bs, of which there is a first
record Good (stop : ℕ) (bs : List ℕ) (ps : List (List ℕ)) : Type 0 where
  some : 0 < length ps
  free : AllWithout stop ps
  whole : rejoined stop ps ≡ bs

after_stop : (stop : ℕ) (ps : List (List ℕ)) → 0 < length ps → stopped stop ps ≡ stop ∷ rejoined stop ps
after_stop stop [] h = absurd (omega arith)
after_stop stop (p ∷ ps) h = refl

good_onto : (stop b : ℕ) (bs : List ℕ) (ps : List (List ℕ)) → (b ≡ stop → ⊥) → Good stop bs ps → Good stop (b ∷ bs) (onto b ps)
good_onto stop b bs [] ne g = let z = g.some in absurd (omega arith)
good_onto stop b bs (p ∷ ps) ne g = record { some = omega arith; free = ((ne, g.free.0), g.free.1); whole = ap (λ (z : List ℕ). b ∷ z) g.whole }

good_step : (stop b : ℕ) (bs : List ℕ) (t : Bool) → eqb b stop ≡ t → Good stop bs (pieces stop bs) → Good stop (b ∷ bs) (cond t ([] ∷ pieces stop bs) (onto b (pieces stop bs)))
good_step stop b bs true e g = record {
  some = omega arith;
  free = (tt, g.free);
  whole = after_stop stop (pieces stop bs) g.some ∙ ap (λ (z : List ℕ). stop ∷ z) g.whole ∙ ap (λ (x : ℕ). x ∷ bs) (sym (eqb-true b stop e));
}
good_step stop b bs false e g = good_onto stop b bs (pieces stop bs) (eqb-false b stop e) g

good : (stop : ℕ) (bs : List ℕ) → Good stop bs (pieces stop bs)
good stop [] = record { some = omega arith; free = (tt, tt); whole = refl }
good stop (b ∷ bs) = good_step stop b bs (eqb b stop) refl (good stop bs)

-- the pieces of pieces that were put together
again : (stop : ℕ) (p : List ℕ) (ps : List (List ℕ)) → Without stop p → AllWithout stop ps → pieces stop (p ++ stopped stop ps) ≡ p ∷ ps
again stop [] [] w f = refl
again stop [] (q ∷ qs) w f =
    ap (λ (t : Bool). cond t ([] ∷ pieces stop (q ++ stopped stop qs)) (onto stop (pieces stop (q ++ stopped stop qs)))) (eq-eqb stop stop refl)
    ∙ ap (λ (z : List (List ℕ)). [] ∷ z) (again stop q qs f.0 f.1)
again stop (b ∷ p) ps w f =
    ap (λ (t : Bool). cond t ([] ∷ pieces stop (p ++ stopped stop ps)) (onto b (pieces stop (p ++ stopped stop ps)))) (ne_eqb b stop w.0)
    ∙ ap (onto b) (again stop p ps w.1 f)

only : (stop : ℕ) (bs : List ℕ) (ps : List (List ℕ)) → 0 < length ps → AllWithout stop ps → rejoined stop ps ≡ bs → ps ≡ pieces stop bs
only stop bs [] h f e = absurd (omega arith)
only stop bs (p ∷ ps) h f e = sym (again stop p ps f.0 f.1) ∙ ap (pieces stop) e

pub cuts : Cuts
cuts stop bs = let g = good stop bs in (g.free, g.whole, only stop bs)
