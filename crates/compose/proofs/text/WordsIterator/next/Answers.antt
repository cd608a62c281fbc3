-- The pieces that were passed over are no words.
use Rattle.std.proofs.Common.{refl, rules, tests}
use Rattle.compose.specs.Pieces.{words_of}
use Rattle.compose.proofs.Cutting.{word_found, yields_progress}
use Rattle.compose.proofs.text.WordsIterator.next.Goals as goal

pub returns : goal.returns
returns c =
    let steps = word_found _ _ c.args.self.now.pieces c.find.new.self c.find.result (λ p q k. (refl, search (rules, tests))) (λ p q k. search (rules, tests)) c.find.ensures.ran in
    record { steps = steps; goes = yields_progress _ (λ p. p.now) words_of c.args.self.now c.find.result _ (λ u. tt) steps }
