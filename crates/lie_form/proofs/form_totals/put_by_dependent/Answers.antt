use Rattle.std.proofs.Common.{◌≡◌, ◌∙◌, ◌+◌, ap, ap₂, subst, replicate}
use Rattle.std.proofs.lemmas.Result.{err_from_is_err_and}
use Rattle.lie_math.specs.Counts.{Derivative, raise, raised}
use Rattle.lie_math.specs.Limits.{absolute}
use Rattle.lie_math.specs.LinearForm.{◌+ᶠ◌, form_term, each_coefficient}
use Rattle.lie_math.specs.Polynomial.{WholePolynomial, ◌+ᴾ◌, ◌*ᴾ◌}
use Rattle.lie_geometry.specs.Coordinates.{Space}
use Rattle.lie_geometry.specs.Prolongation.{jet_variable}
use Rattle.lie_ring.specs.Causes.{IsCause}
use Rattle.lie_jet.specs.Derivatives.{derivative_of}
use Rattle.lie_form.specs.FormTotals.{dependent_term}
use Rattle.lie_form.proofs.FormBounds.{at}
use Rattle.lie_form.proofs.FormSteps.{count_low, product_cause, put_cause, starved_cause}
use Rattle.lie_jet.proofs.TotalBounds.{product_bound}
use Rattle.lie_jet.proofs.TotalSteps.{on_ok, if_err}
use Rattle.lie_form.proofs.form_totals.put_by_dependent.Goals as goal
use Rattle.lie_form.proofs.form_totals.put_by_dependent.Goals.{After-raise_derivative}

pub returns-in_err-slope-clause-past : goal.returns-in_err-slope-clause-past
returns-in_err-slope-clause-past c =
    let p = err_from_is_err_and c.from_residual.result c.from_residual.ensures.1 in
    rw (p.1, p.2) (starved_cause _ (each_coefficient absolute c.args.sum.now +ᶠ dependent_term c.args.space c.args.i (derivative_of c.args.der.now) (absolute c.args.poly.now) c.args.b) c.in_err-slope.ensures.memory)

pub returns-in_err-product-clause-past : goal.returns-in_err-product-clause-past
returns-in_err-product-clause-past c =
    let p = err_from_is_err_and c.from_residual-in_err-product.result c.from_residual-in_err-product.ensures.1 in
    rw (p.1, p.2) (product_cause c.args.space c.requires.small c.args.i c.requires.within (derivative_of c.args.der.now) c.args.poly.now _ c.args.sum.now c.args.b c.in_ok-slope.slope c.in_ok-slope.ensures.slope c.in_err-product.ensures.past)

pub raise_derivative-requires-clause-low : goal.raise_derivative-requires-clause-low
raise_derivative-requires-clause-low c = count_low c.args.der.now (c.space.inside.p + c.args.b) c.requires.orders

derivative : (c : After-raise_derivative) → derivative_of c.raise_derivative.result ≡ raised (c.args.space.p + c.args.b) (derivative_of c.args.der.now)
derivative c = c.raise_derivative.ensures ∙ ap (λ (S : Space). raised (S.p + c.args.b) (derivative_of c.args.der.now)) c.space.view_is

product : (c : After-raise_derivative) → c.in_ok-product.product ≡ c.args.poly.now *ᴾ jet_variable c.args.space c.args.b (raise c.args.i (replicate c.args.space.p 0))
product c = c.in_ok-product.ensures.product ∙ ap (λ q. c.args.poly.now *ᴾ q) c.in_ok-slope.ensures.slope

pub returns-clause-sum : goal.returns-clause-sum
returns-clause-sum c =
    let k = (goal.at.returns-clause-sum c).After-raise_derivative in
    on_ok c.put.result (λ h. h ∙ ap₂ (λ (d : Derivative) (a : WholePolynomial). c.args.sum.now +ᶠ form_term d a) (derivative k) (product k)) c.put.ensures.sum

pub returns-clause-past : goal.returns-clause-past
returns-clause-past c =
    let k = (goal.at.returns-clause-past c).After-raise_derivative in
    if_err c.put.result (λ fail h. put_cause fail c.args.sum.now (raised (c.args.space.p + c.args.b) (derivative_of c.args.der.now)) _ _ (product_bound _ c.args.poly.now)
    (subst (λ (d : Derivative). IsCause fail (absolute (at c.args.sum.now d) +ᴾ absolute (c.args.poly.now *ᴾ jet_variable c.args.space c.args.b (raise c.args.i (replicate c.args.space.p 0))))) (derivative k)
    (subst (λ (a : WholePolynomial). IsCause fail (absolute (at c.args.sum.now (derivative_of c.raise_derivative.result)) +ᴾ absolute a)) (product k) h))) c.put.ensures.past
