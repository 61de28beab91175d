use Rattle.std.proofs.Common.{◌∙◌, ap, ap₂, subst}
use Rattle.std.specs.Prelude.{neg_ℤ}
use Rattle.std.proofs.lemmas.Result.{on_ok_weaker, IfErr-weaker}
use Rattle.lie_math.specs.LinearForm.{LinearForm}
use Rattle.lie_math.specs.Polynomial.{WholePolynomial, constant}
use Rattle.lie_systems.specs.Bulk.{IsFormWithinLimits}
use Rattle.lie_systems.specs.Normalised.{sign}
use Rattle.lie_form.specs.FormLimits.{IsFormCause}
use Rattle.lie_jet.proofs.TotalParts.{if_ok}
use Rattle.lie_normal.specs.TermSums.{multiples, multiples_bulk}
use Rattle.lie_integral.proofs.IntegralNumbers.{minus_sign_size}
use Rattle.lie_rules.proofs.PlainSums.{multiple_alone, multiple_bulk_alone, empty_form}
use Rattle.lie_rules.proofs.substitute.solution.Goals as goal

pub returns-clause-solution : goal.returns-clause-solution
returns-clause-solution c =
    if_ok c.sum_of_multiples.result
    (λ a h. h ∙ ap₂ (λ (q : WholePolynomial) (F : LinearForm). multiples q c.args.solved.now.rest q F)
    (c.in_ok-factor.ensures ∙ ap constant c.minus_sign.ensures)
    (empty_form c.of_terms-none.result c.new.result.items c.of_terms-none.ensures c.new.ensures.items)
    ∙ multiple_alone (neg_ℤ (sign c.args.solved.now.number)) (minus_sign_size c.args.solved.now.number) c.args.solved.now.rest)
    c.sum_of_multiples.ensures.sum

pub returns-clause-fits : goal.returns-clause-fits
returns-clause-fits c =
    on_ok_weaker c.sum_of_multiples.result
    (subst IsFormWithinLimits (ap₂ (λ (q : WholePolynomial) (F : LinearForm). multiples_bulk q c.args.solved.now.rest q F)
    (c.in_ok-factor.ensures ∙ ap constant c.minus_sign.ensures)
    (empty_form c.of_terms-none.result c.new.result.items c.of_terms-none.ensures c.new.ensures.items)
    ∙ multiple_bulk_alone (neg_ℤ (sign c.args.solved.now.number)) (minus_sign_size c.args.solved.now.number) c.args.solved.now.rest))
    c.sum_of_multiples.ensures.fits

pub returns-clause-past : goal.returns-clause-past
returns-clause-past c =
    IfErr-weaker c.sum_of_multiples.result _ _
    (λ fail. subst (IsFormCause fail)
    (ap₂ (λ (q : WholePolynomial) (F : LinearForm). multiples_bulk q c.args.solved.now.rest q F)
    (c.in_ok-factor.ensures ∙ ap constant c.minus_sign.ensures)
    (empty_form c.of_terms-none.result c.new.result.items c.of_terms-none.ensures c.new.ensures.items)
    ∙ multiple_bulk_alone (neg_ℤ (sign c.args.solved.now.number)) (minus_sign_size c.args.solved.now.number) c.args.solved.now.rest))
    c.sum_of_multiples.ensures.past
