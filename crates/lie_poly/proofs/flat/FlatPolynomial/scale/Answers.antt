use Rattle.std.proofs.Common.{subst, ap, ◌∙◌, pos}
use Rattle.std.specs.Prelude.{unsigned_abs}
use Rattle.std.proofs.lemmas.Result.{err_from_is_err_and}
use Rattle.lie_math.specs.Polynomial.{constant, ◌*ᴾ◌}
use Rattle.lie_math.specs.Limits.{IsWithinLimits}
use Rattle.lie_ring.specs.Causes.{IsCause}
use Rattle.lie_poly.proofs.Bulks.{absolute_is}
use Rattle.lie_poly.proofs.TallyLists.{tallied_limits}
use Rattle.lie_poly.proofs.flat.FlatPolynomial.scale.Goals as goal

pub returns-clause-fits : goal.returns-clause-fits
returns-clause-fits g c =
    let value = g.C.Ring.value in
    let bulk = ap (λ p. constant (pos (unsigned_abs (value c.args.c.now))) *ᴾ p) (absolute_is value c.as_slice.result.now c.self.inside.terms.items c.args.self.now c.as_slice.ensures.value c.self.invariant.ordered c.self.view_is) in
    subst IsWithinLimits (c.in_ok-tallies.ensures.product.bulk ∙ bulk) (tallied_limits value _ c.in_ok-tallies.ensures.product.tallied)

pub returns-in_err-tallies-clause-past : goal.returns-in_err-tallies-clause-past
returns-in_err-tallies-clause-past g c =
    let value = g.C.Ring.value in
    let bulk = ap (λ p. constant (pos (unsigned_abs (value c.args.c.now))) *ᴾ p) (absolute_is value c.as_slice.result.now c.self.inside.terms.items c.args.self.now c.as_slice.ensures.value c.self.invariant.ordered c.self.view_is) in
    let p = err_from_is_err_and c.from_residual.result c.from_residual.ensures.1 in
    rw (p.1, p.2) (subst (IsCause _) bulk c.in_err-tallies.ensures.past)
