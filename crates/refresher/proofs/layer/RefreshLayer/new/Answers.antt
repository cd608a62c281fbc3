use Rattle.std.proofs.Common.{length, sym, ap, ◌∙◌, arith}
use Rattle.refresh.specs.Powers.{greatest_power}
use Rattle.refresh.specs.Refresh.{new_registers}
use Rattle.medium.specs.Meaning.{means}
use Rattle.medium.specs.Pile.{refresh}
use Rattle.medium.proofs.Fittings.{fitted_new, fitted_none}
use Rattle.refresher.specs.Layer.{registers}
use Rattle.refresher.proofs.Making.{size_few, size_again, layer_made, layer_unfit}
use Rattle.refresher.proofs.layer.RefreshLayer.new.Goals as goal

pub returns-then-is_err-clause-unfit : goal.returns-then-is_err-clause-unfit
returns-then-is_err-clause-unfit g c = λ d e. layer_unfit _ (registers c.unfit.result) _ _ c.unfit.ensures.none c.unfit.ensures.copies

pub returns-then-is_err-clause-fitted : goal.returns-then-is_err-clause-fitted
returns-then-is_err-clause-fitted g c =
    let b = means g.M.Medium c.args.below in
    let made = layer_unfit b (registers c.unfit.result) (g.M.Medium.wear c.args.below) (g.M.Medium.pile c.args.below) c.unfit.ensures.none c.unfit.ensures.copies in
    fitted_none _ b _ _ _ _ _ made.pile made.none made.wear

pub new-registers-requires-clause-few : goal.new-registers-requires-clause-few
new-registers-requires-clause-few g c =
    let e = c.size_for-size.ensures.value in
    let few = size_few _ c.count-count.ensures.bound in
    omega arith

pub new-registers-requires-clause-power : goal.new-registers-requires-clause-power
new-registers-requires-clause-power g c =
    let e = c.size_for-size.ensures.value in
    e ∙ size_again _ c.count-count.ensures.bound ∙ ap greatest_power (sym e)

pub returns-clause-fit : goal.returns-clause-fit
returns-clause-fit g c =
    let el = c.left-left.ensures.left in
    λ e. layer_made (means g.M.Medium c.args.below) _ _ _ _ _ _ _ _ _ _ (omega arith) c.count-count.ensures.bound c.count-count.ensures.answer (omega arith) c.survey.ensures.answer (sym c.is_err.ensures.value ∙ c.if-is_err.false) c.size_for-size.ensures.value c.life_for-life.ensures.value c.new-registers.ensures.new

pub returns-clause-fitted : goal.returns-clause-fitted
returns-clause-fitted g c =
    let b = means g.M.Medium c.args.below in
    let el = c.left-left.ensures.left in
    let made = layer_made b _ _ _ _ _ _ _ _ (g.M.Medium.wear c.args.below) (g.M.Medium.pile c.args.below) (omega arith) c.count-count.ensures.bound c.count-count.ensures.answer (omega arith) c.survey.ensures.answer (sym c.is_err.ensures.value ∙ c.if-is_err.false) c.size_for-size.ensures.value c.life_for-life.ensures.value c.new-registers.ensures.new in
    fitted_new (refresh (new_registers (greatest_power (length b.lines)) c.args.interval c.args.ring.now)) b (g.M.Medium.wear c.args.below) (g.M.Medium.pile c.args.below) _ _ _ made.pile made.new made.wear
