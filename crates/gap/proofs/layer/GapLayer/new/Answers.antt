-- By the survey's answer.
use Rattle.std.proofs.Common.{◌≡◌, true, false, length, is_err, sym, refl, ap, ◌∙◌, arith}
use Rattle.startgap.specs.Regions.{Gaps, region_size, new_gaps}
use Rattle.startgap.proofs.Regions.{sizes}
use Rattle.medium.specs.Law.{left}
use Rattle.medium.specs.Meaning.{means}
use Rattle.medium.specs.Pile.{gaps}
use Rattle.medium.proofs.Fittings.{fitted_new, fitted_none}
use Rattle.gap.specs.Regions.{gap_array, gap_survey}
use Rattle.gap.proofs.Making.{survey_yes, yes_not_no, no_not_yes, surveyed, new_made, unfit_array}
use Rattle.gap.proofs.layer.GapLayer.new.Goals as goal

pub returns-then-is_err : goal.returns-then-is_err
returns-then-is_err g c =
    let b = means g.M.Medium c.args.below in
    let el = c.left-left.ensures.left in
    let same = surveyed c.args.regions c.args.interval c.count-count.result (length b.lines) c.left-left.result (left b) (omega arith) (omega arith) in
    let no : is_err (gap_survey c.args.regions c.args.interval (length b.lines) (left b)) ≡ true =
    sym (ap is_err (c.survey.ensures ∙ same)) ∙ sym c.is_err.ensures.value ∙ c.if-is_err.true in
    let unfit = ap (λ (G : Gaps). gap_array G 0 0 b) c.none.ensures ∙ unfit_array b in
    record {
      kept = refl;
      fit = λ e. let z = no_not_yes _ no e in absurd (omega arith);
      unfit = λ d e. record { unfit = unfit; copies = ap (λ (G : Gaps). G.copies) c.none.ensures; wear = refl; pile = refl };
      fitted = fitted_none _ b _ _ _ _ _ refl unfit refl;
    }

pub new-requires-clause-fit : goal.new-requires-clause-fit
new-requires-clause-fit g c =
    let R = c.args.regions in
    let n = c.count-count.result in
    let l = c.left-left.result in
    let yes : is_err (gap_survey R c.args.interval n l) ≡ false =
    sym (ap is_err c.survey.ensures) ∙ sym c.is_err.ensures.value ∙ c.if-is_err.false in
    let y = survey_yes R c.args.interval n l yes in
    record { few = y.few; sized = (sizes n R y.some y.wide).0; paced = y.paced }

pub returns : goal.returns
returns g c =
    let R = c.args.regions in
    let n = c.count-count.result in
    let b = means g.M.Medium c.args.below in
    let l = c.left-left.result in
    let el = c.left-left.ensures.left in
    let same = surveyed R c.args.interval n (length b.lines) l (left b) (omega arith) (omega arith) in
    let yes : is_err (gap_survey R c.args.interval n l) ≡ false =
    sym (ap is_err c.survey.ensures) ∙ sym c.is_err.ensures.value ∙ c.if-is_err.false in
    let y = survey_yes R c.args.interval n l yes in
    let made = new_made b (g.M.Medium.wear c.args.below) (g.M.Medium.pile c.args.below) R c.args.interval n l c.life.result _ (omega arith) (omega arith) y c.life.ensures.answer c.new.ensures in
    record {
      kept = refl;
      fit = λ e. made;
      fitted = fitted_new (gaps (new_gaps R (region_size (length b.lines) R) c.args.interval)) b (g.M.Medium.wear c.args.below) (g.M.Medium.pile c.args.below) _ _ _ made.pile made.new made.wear;
      unfit = λ d e. let z = yes_not_no _ d (sym (ap is_err same) ∙ yes) e in absurd (omega arith);
    }
