use Rattle.std.proofs.Common.{subst, ap, ap₂, ◌∙◌}
use Rattle.std.proofs.lemmas.Result.{IfOk-weaker, IfErr-weaker, on_ok_weaker}
use Rattle.lie_math.specs.Polynomial.{polynomial_of, ◌+ᴾ◌}
use Rattle.lie_math.specs.Limits.{IsWithinLimits}
use Rattle.lie_ring.specs.Causes.{IsCause}
use Rattle.lie_ring.specs.Entries.{entries}
use Rattle.lie_poly.proofs.Bulks.{absolute_is}
use Rattle.lie_poly.proofs.flat.FlatPolynomial.add.Goals as goal

pub returns-clause-sum : goal.returns-clause-sum
returns-clause-sum g c =
    let value = g.C.Ring.value in
    let here = ap₂ ◌+ᴾ◌
    (ap (λ ts. polynomial_of (entries value ts)) c.as_slice.ensures.value ∙ c.self.view_is)
    (ap (λ ts. polynomial_of (entries value ts)) c.as_slice-2.ensures.value ∙ c.other.view_is) in
    IfOk-weaker c.sum.result _ _ (λ flat h. h ∙ here) c.sum.ensures.sum

pub returns-clause-fits : goal.returns-clause-fits
returns-clause-fits g c =
    let value = g.C.Ring.value in
    let bulk = ap₂ ◌+ᴾ◌
    (absolute_is value c.as_slice.result.now c.self.inside.terms.items c.args.self.now c.as_slice.ensures.value c.self.invariant.ordered c.self.view_is)
    (absolute_is value c.as_slice-2.result.now c.other.inside.terms.items c.args.other.now c.as_slice-2.ensures.value c.other.invariant.ordered c.other.view_is) in
    on_ok_weaker c.sum.result (subst IsWithinLimits bulk) c.sum.ensures.fits

pub returns-clause-past : goal.returns-clause-past
returns-clause-past g c =
    let value = g.C.Ring.value in
    let bulk = ap₂ ◌+ᴾ◌
    (absolute_is value c.as_slice.result.now c.self.inside.terms.items c.args.self.now c.as_slice.ensures.value c.self.invariant.ordered c.self.view_is)
    (absolute_is value c.as_slice-2.result.now c.other.inside.terms.items c.args.other.now c.as_slice-2.ensures.value c.other.invariant.ordered c.other.view_is) in
    IfErr-weaker c.sum.result _ _ (λ fail h. subst (IsCause fail) bulk h) c.sum.ensures.past
