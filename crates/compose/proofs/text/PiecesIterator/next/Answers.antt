-- The first piece ends at the first stop.
use Rattle.std.proofs.Common.{◌≡◌, ℕ, ◌+◌, eqb, sym, ap, ◌∙◌, rules, tests}
use Rattle.std.proofs.lemmas.Iterator.{YieldsList-from_slice}
use Rattle.std.proofs.lemmas.Iterator.Search.{position_from_yields_List}
use Rattle.std.proofs.lemmas.List.{take_rest}
use Rattle.std.specs.List.{position}
use Rattle.compose.specs.Pieces.{pieces_left, pieces_of}
use Rattle.compose.proofs.Cutting.{pieces_first, pieces_whole, yields_progress}
use Rattle.compose.proofs.text.PiecesIterator.next.Goals as goal

pub returns-in-Some : goal.returns-in-Some
returns-in-Some c =
    let rest = c.in_ok-rest.rest.now in
    let stop = c.args.self.now.stop in
    let at : c.position.result ≡ position (λ b. eqb b stop) rest =
    position_from_yields_List (λ (b : ℕ). eqb b stop) _ _ c.position.result c.position.ensures.ran (YieldsList-from_slice rest (cc)) (λ x b q k. search (rules, tests)) in
    let first = pieces_first stop rest c.in-Some.i (sym at ∙ c.in-Some.is) in
    let steps = ap (pieces_left stop) c.in_ok-rest.was ∙ first in
    record {
      steps = rw (take_rest rest (c.in-Some.i + 1)) steps;
      goes = yields_progress _ (λ p. p.now) pieces_of c.args.self.now _ _ (λ u. tt) (rw (take_rest rest (c.in-Some.i + 1)) steps);
    }

pub returns-in-None : goal.returns-in-None
returns-in-None c =
    let rest = c.in_ok-rest.rest.now in
    let stop = c.args.self.now.stop in
    let at : c.position.result ≡ position (λ b. eqb b stop) rest =
    position_from_yields_List (λ (b : ℕ). eqb b stop) _ _ c.position.result c.position.ensures.ran (YieldsList-from_slice rest (cc)) (λ x b q k. search (rules, tests)) in
    let steps = ap (pieces_left stop) c.in_ok-rest.was ∙ pieces_whole stop rest (sym at ∙ c.in-None.is) in
    record { steps = steps; goes = yields_progress _ (λ p. p.now) pieces_of c.args.self.now _ _ (λ u. tt) steps }
