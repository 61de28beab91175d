use Rattle.std.proofs.Common.{subst, ap, ap₂, ◌∙◌}
use Rattle.std.proofs.lemmas.Result.{IfOk-weaker, IfErr-weaker, on_ok_weaker}
use Rattle.lie_math.specs.Polynomial.{polynomial_of, ◌*ᴾ◌}
use Rattle.lie_math.specs.Limits.{IsWithinLimits}
use Rattle.lie_ring.specs.Causes.{IsCause}
use Rattle.lie_ring.specs.Entries.{entries}
use Rattle.lie_poly.proofs.Bulks.{absolute_is}
use Rattle.lie_poly.proofs.flat.FlatPolynomial.mul.Goals as goal

pub returns-clause-product : goal.returns-clause-product
returns-clause-product g c =
    let value = g.C.Ring.value in
    let here = ap₂ ◌*ᴾ◌
    (ap (λ ts. polynomial_of (entries value ts)) c.as_slice.ensures.value ∙ c.self.view_is)
    (ap (λ ts. polynomial_of (entries value ts)) c.as_slice-2.ensures.value ∙ c.other.view_is) in
    IfOk-weaker c.product.result _ _ (λ flat h. h ∙ here) c.product.ensures.product

pub returns-clause-fits : goal.returns-clause-fits
returns-clause-fits g c =
    let value = g.C.Ring.value in
    let bulk = ap₂ ◌*ᴾ◌
    (absolute_is value c.as_slice.result.now c.self.inside.terms.items c.args.self.now c.as_slice.ensures.value c.self.invariant.ordered c.self.view_is)
    (absolute_is value c.as_slice-2.result.now c.other.inside.terms.items c.args.other.now c.as_slice-2.ensures.value c.other.invariant.ordered c.other.view_is) in
    on_ok_weaker c.product.result (subst IsWithinLimits bulk) c.product.ensures.fits

pub returns-clause-past : goal.returns-clause-past
returns-clause-past g c =
    let value = g.C.Ring.value in
    let bulk = ap₂ ◌*ᴾ◌
    (absolute_is value c.as_slice.result.now c.self.inside.terms.items c.args.self.now c.as_slice.ensures.value c.self.invariant.ordered c.self.view_is)
    (absolute_is value c.as_slice-2.result.now c.other.inside.terms.items c.args.other.now c.as_slice-2.ensures.value c.other.invariant.ordered c.other.view_is) in
    IfErr-weaker c.product.result _ _ (λ fail h. subst (IsCause fail) bulk h) c.product.ensures.past
