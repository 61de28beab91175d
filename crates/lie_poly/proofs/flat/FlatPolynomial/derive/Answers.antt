use Rattle.std.proofs.Common.{subst, ap, ◌∙◌}
use Rattle.std.proofs.lemmas.Result.{err_from_is_err_and}
use Rattle.lie_math.specs.Polynomial.{polynomial_of}
use Rattle.lie_math.specs.PartialDerivative.{partial}
use Rattle.lie_math.specs.Limits.{IsWithinLimits}
use Rattle.lie_math.proofs.TermWise.{polynomial_of-derived, derived_list}
use Rattle.lie_ring.specs.Causes.{IsCause}
use Rattle.lie_ring.specs.Entries.{entries}
use Rattle.lie_poly.proofs.Bulks.{absolute_is}
use Rattle.lie_poly.proofs.DerivativeSteps.{derived_bulk, sorted_bulk}
use Rattle.lie_poly.proofs.flat.FlatPolynomial.derive.Goals as goal

pub returns-clause-derivative : goal.returns-clause-derivative
returns-clause-derivative g c =
    let value = g.C.Ring.value in
    ap polynomial_of c.in_ok-terms.ensures.terms ∙ polynomial_of-derived c.args.var (entries value c.as_slice.result.now)
    ∙ ap (partial c.args.var) (ap (λ xs. polynomial_of (entries value xs)) c.as_slice.ensures.value ∙ c.self.view_is)

pub returns-clause-fits : goal.returns-clause-fits
returns-clause-fits g c =
    let value = g.C.Ring.value in
    let bulk = derived_bulk c.args.var (entries value c.as_slice.result.now)
    ∙ ap (partial c.args.var) (absolute_is value c.as_slice.result.now c.self.inside.terms.items c.args.self.now c.as_slice.ensures.value c.self.invariant.ordered c.self.view_is) in
    subst IsWithinLimits bulk (sorted_bulk (derived_list c.args.var (entries value c.as_slice.result.now)) c.in_ok-terms.ensures.fits)

pub returns-in_err-terms-clause-past : goal.returns-in_err-terms-clause-past
returns-in_err-terms-clause-past g c =
    let value = g.C.Ring.value in
    let bulk = derived_bulk c.args.var (entries value c.as_slice.result.now)
    ∙ ap (partial c.args.var) (absolute_is value c.as_slice.result.now c.self.inside.terms.items c.args.self.now c.as_slice.ensures.value c.self.invariant.ordered c.self.view_is) in
    let p = err_from_is_err_and c.from_residual.result c.from_residual.ensures.1 in
    rw (p.1, p.2) (subst (IsCause _) bulk c.in_err-terms.ensures.past)
