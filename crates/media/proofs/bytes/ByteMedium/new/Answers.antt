use Rattle.std.proofs.Common.{◌≡◌, ℕ, true, false, length, replicate, is_err, sum, sym, refl, ap, ◌∙◌, arith, rules}
use Rattle.media.specs.Bytes.{byte_survey}
use Rattle.media.proofs.Chunked.{denied_not_ok, lines_empty, made_unfit, sum_none, survey_few}
use Rattle.media.proofs.bytes.ByteMedium.new.Goals as goal

pub returns-then-is_err : goal.returns-then-is_err
returns-then-is_err g c =
    let get = g.K.LineKind.reading in
    let w = g.K.LineKind.width in
    let no : is_err (byte_survey w (length c.args.counts.now) c.args.life (length c.args.bytes.now)) ≡ true =
    sym (ap is_err c.survey.ensures) ∙ sym c.is_err.ensures.value ∙ c.if-is_err.true in
    record {
      fit = λ e. let z : ◌≡◌ {A = ℕ} 0 1 = denied_not_ok _ no e in absurd (omega arith);
      unfit = λ d e. (refl, refl, refl);
      means = made_unfit _ _ _ _ no (ap (λ ls. record { lines = ls; taken = 0; life = 0 }) (lines_empty get w)) refl;
    }

pub invariant_of-result-2 : goal.invariant_of-result-2
invariant_of-result-2 g c =
    let n = length c.args.counts.now in
    let no : is_err (byte_survey g.K.LineKind.width n c.args.life (length c.args.bytes.now)) ≡ false = sym (ap is_err c.survey.ensures) ∙ sym c.is_err.ensures.value ∙ c.if-is_err.false in
    let f = survey_few g.K.LineKind.width n c.args.life (length c.args.bytes.now) no in
    let l = c.fill.ensures.len in
    let z : c.fill.new.self ≡ replicate n 0 = search rules in
    record {
      few = omega arith;
      sums = ap sum z ∙ sum_none n;
      within = omega arith;
    }
