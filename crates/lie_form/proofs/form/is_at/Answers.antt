use Rattle.std.proofs.Common.{ap, refl, sym, ◌∙◌, true≢false}
use Rattle.lie_math.specs.Counts.{derivative_cmp}
use Rattle.lie_math.specs.Polynomial.{WholePolynomial}
use Rattle.lie_jet.specs.Derivatives.{derivative_of}
use Rattle.lie_jet.specs.declared.derivative.Der.{Der}
use Rattle.lie_jet.proofs.ListPlaces.{cut_map}
use Rattle.lie_form.proofs.DerivativeLists.{first_is, not_first}
use Rattle.lie_form.proofs.form.is_at.Goals as goal

pub returns-in-Equal : goal.returns-in-Equal
returns-in-Equal c =
    let here = ap (λ (t : Der × WholePolynomial). derivative_cmp (derivative_of c.args.der.now) (derivative_of t.0)) c.index-terms-place.is ∙ sym c.compare_derivatives.ensures in
    (λ _. first_is _ _ _ _ (cut_map (λ (t : Der × WholePolynomial). (derivative_of t.0, t.1)) c.args.terms.now c.args.place c.index-terms-place.result c.if-place-terms.false c.index-terms-place.is) (here ∙ c.in-Equal.is), λ _. refl)

pub returns-in_default : goal.returns-in_default
returns-in_default c =
    let here = ap (λ (t : Der × WholePolynomial). derivative_cmp (derivative_of c.args.der.now) (derivative_of t.0)) c.index-terms-place.is ∙ sym c.compare_derivatives.ensures in (
      λ h. absurd (true≢false (sym h)),
      λ h. absurd (not_first _ _ _ _ (cut_map (λ (t : Der × WholePolynomial). (derivative_of t.0, t.1)) c.args.terms.now c.args.place c.index-terms-place.result c.if-place-terms.false c.index-terms-place.is) (λ q. c.in_default.not-Equal (sym here ∙ q)) h),
    )
