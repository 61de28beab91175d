use Rattle.std.proofs.Common.{◌∙◌, ap, subst}
use Rattle.std.proofs.lemmas.Result.{on_ok_weaker, IfErr-weaker}
use Rattle.lie_math.specs.Polynomial.{WholePolynomial, constant}
use Rattle.lie_systems.specs.Bulk.{IsFormWithinLimits}
use Rattle.lie_form.specs.FormLimits.{IsFormCause}
use Rattle.lie_jet.proofs.TotalParts.{if_ok}
use Rattle.lie_normal.specs.TermSums.{multiples, multiples_bulk}
use Rattle.lie_rules.proofs.PlainSums.{sum_plain, sum_bulk}
use Rattle.lie_rules.proofs.integrate.sum_of.Goals as goal

pub returns-clause-sum : goal.returns-clause-sum
returns-clause-sum c =
    if_ok c.sum_of_multiples.result
    (λ a h. h ∙ ap (λ (q : WholePolynomial). multiples q c.args.form.now q c.args.other.now)
    (c.in_ok-one.ensures ∙ ap constant c.one.ensures) ∙ sum_plain c.args.form.now c.args.other.now)
    c.sum_of_multiples.ensures.sum

pub returns-clause-fits : goal.returns-clause-fits
returns-clause-fits c =
    on_ok_weaker c.sum_of_multiples.result
    (subst IsFormWithinLimits (ap (λ (q : WholePolynomial). multiples_bulk q c.args.form.now q c.args.other.now)
    (c.in_ok-one.ensures ∙ ap constant c.one.ensures) ∙ sum_bulk c.args.form.now c.args.other.now c.requires))
    c.sum_of_multiples.ensures.fits

pub returns-clause-past : goal.returns-clause-past
returns-clause-past c =
    IfErr-weaker c.sum_of_multiples.result _ _
    (λ fail. subst (IsFormCause fail)
    (ap (λ (q : WholePolynomial). multiples_bulk q c.args.form.now q c.args.other.now) (c.in_ok-one.ensures ∙ ap constant c.one.ensures)
    ∙ sum_bulk c.args.form.now c.args.other.now c.requires))
    c.sum_of_multiples.ensures.past
