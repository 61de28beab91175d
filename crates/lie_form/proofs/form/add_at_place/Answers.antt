use Rattle.std.proofs.Common.{ap, subst, ◌∙◌, ◌++◌, take}
use Rattle.std.proofs.lemmas.Result.{err_from_is_err_and}
use Rattle.lie_math.specs.Counts.{Derivative}
use Rattle.lie_math.specs.Limits.{absolute, IsWithinLimits}
use Rattle.lie_math.specs.LinearForm.{forms}
use Rattle.lie_math.specs.SortedSum.{put_new}
use Rattle.lie_ring.specs.Causes.{IsCause}
use Rattle.lie_math.specs.Polynomial.{WholePolynomial, ◌+ᴾ◌}
use Rattle.lie_form.specs.DerivativeTerms.{derivative_terms}
use Rattle.lie_form.proofs.DerivativeLists.{term_at}
use Rattle.lie_form.proofs.form.add_at_place.Goals as goal

pub returns-in_err-sum-clause-past : goal.returns-in_err-sum-clause-past
returns-in_err-sum-clause-past c =
    let p = err_from_is_err_and c.from_residual.result c.from_residual.ensures.1 in
    rw (p.1, p.2) (λ e fs q. subst (λ (y : Derivative × WholePolynomial). IsCause c.in_err-sum.field-0.0 (absolute y.1 +ᴾ absolute c.args.poly.now)) (term_at c.args.terms.now.items fs c.args.place e c.index.result.now q c.index.ensures) c.in_err-sum.ensures.past)

pub returns-clause-items : goal.returns-clause-items
returns-clause-items c e fs q =
    c.put_coefficient.ensures e fs q
    ∙ ap (λ a. take c.args.place (derivative_terms c.args.terms.now.items) ++ put_new forms.order forms.values e.0 a fs) (c.in_ok-sum.ensures.sum ∙ ap (λ (y : Derivative × WholePolynomial). y.1 +ᴾ c.args.poly.now) (term_at c.args.terms.now.items fs c.args.place e c.index.result.now q c.index.ensures))

pub returns-clause-fits : goal.returns-clause-fits
returns-clause-fits c e fs q = subst (λ (y : Derivative × WholePolynomial). IsWithinLimits (absolute y.1 +ᴾ absolute c.args.poly.now)) (term_at c.args.terms.now.items fs c.args.place e c.index.result.now q c.index.ensures) c.in_ok-sum.ensures.fits
