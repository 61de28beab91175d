use Rattle.std.proofs.Common.{subst}
use Rattle.lie_math.specs.Limits.{IsWithinLimits}
use Rattle.lie_poly.proofs.TallyLists.{tallied_limits}
use Rattle.lie_poly.proofs.flat.FlatPolynomial.of_terms.Goals as goal

pub returns-clause-fits : goal.returns-clause-fits
returns-clause-fits g c = subst IsWithinLimits c.in_ok-tallies.ensures.sum.bulk (tallied_limits g.C.Ring.value _ c.in_ok-tallies.ensures.sum.tallied)
