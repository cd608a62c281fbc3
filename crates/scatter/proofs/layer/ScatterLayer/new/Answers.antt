-- The survey asks of the numbers that the calls below answered, and the life is what is left there or, where it says no, 0.
use Rattle.std.proofs.Common.{◌≡◌, refl, rules}
use Rattle.std.specs.Prelude.{length, MatchResult}
use Rattle.medium.specs.Law.{left}
use Rattle.medium.specs.Meaning.{means}
use Rattle.medium.specs.Pile.{scatter}
use Rattle.medium.proofs.Fittings.{fitted_over}
use Rattle.scatter.specs.Scatters.{scatter_survey}
use Rattle.scatter.proofs.Scattered.{scatter_made}
use Rattle.scatter.proofs.layer.ScatterLayer.new.Goals as goal

pub returns : goal.returns
returns g c =
    let b = means g.M.Medium c.args.below in
    let span = g.S.Shuffle.span c.args.shuffle in
    let f = g.S.Shuffle.forward c.args.shuffle in
    let survey : c.survey.result ≡ scatter_survey span (length b.lines) (left b) = cc in
    let life : MatchResult c.survey.result (λ _. c.map_or-life.result ≡ left b) (λ _. c.map_or-life.result ≡ 0) = search rules in
    let made = scatter_made _ _ _ (g.met.S.Shuffle.undoes c.args.shuffle) b (g.M.Medium.wear c.args.below) (g.M.Medium.pile c.args.below) c.map_or-life.result c.survey.result survey life in
    record { kept = (refl, refl); made = made; fitted = fitted_over (scatter_survey span (length b.lines) (left b)) (scatter span f) b _ _ _ _ _ made }
