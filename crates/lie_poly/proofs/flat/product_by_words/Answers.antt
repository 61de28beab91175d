use Rattle.std.proofs.Common.{sym, subst, ap, ◌∙◌}
use Rattle.lie_math.specs.Polynomial.{polynomial_of}
use Rattle.lie_math.specs.Limits.{IsWithinLimits}
use Rattle.lie_poly.specs.Sorted.{IsSorted}
use Rattle.lie_poly.specs.Tallies.{sums}
use Rattle.lie_poly.proofs.TallyLists.{zeros_sorted, zeros_sum, tallied_limits}
use Rattle.lie_poly.proofs.flat.product_by_words.Goals as goal

pub invariant_of-result : goal.invariant_of-result
invariant_of-result g c =
    let r = c.in_ok-terms.ensures in
    subst IsSorted (sym r.1) (zeros_sorted g.C.Ring.value r.0 r.2.tallied)

pub returns-clause-product : goal.returns-clause-product
returns-clause-product g c =
    let r = c.in_ok-terms.ensures in
    ap polynomial_of r.1 ∙ zeros_sum (sums g.C.Ring.value r.0) ∙ r.2.sum

pub returns-clause-fits : goal.returns-clause-fits
returns-clause-fits g c =
    let r = c.in_ok-terms.ensures in
    subst IsWithinLimits r.2.bulk (tallied_limits g.C.Ring.value r.0 r.2.tallied)
