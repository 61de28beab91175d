use Rattle.std.proofs.Common.{subst, ap, ◌∙◌, List, ℤ}
use Rattle.lie_math.specs.Limits.{absolutes}
use Rattle.lie_math.specs.Monomial.{Monomial}
use Rattle.lie_math.specs.Polynomial.{polynomial_of}
use Rattle.lie_poly.specs.Failures.{IsStarved}
use Rattle.lie_ring.specs.Causes.{IsCause}
use Rattle.lie_jet.proofs.Absolutes.{within_starved}
use Rattle.lie_system.proofs.within_limits.sum_within_limits.Goals as goal
use Rattle.lie_jet.proofs.TotalParts.{entries_same}

pub unreachable-requires : goal.unreachable-requires
unreachable-requires c =
    let fail = c.in-Err-Past.field-0 in
    subst IsStarved c.in-Err-Past.field-0-is
    (within_starved fail (polynomial_of (absolutes c.args.terms.now)) c.requires (subst (λ (es : List (Monomial × ℤ)). IsCause fail (polynomial_of (absolutes es))) (entries_same c.args.terms.now) c.in-Err-Past.ensures.past))

pub returns-in-Ok : goal.returns-in-Ok
returns-in-Ok c = c.in-Ok.ensures.sum ∙ ap polynomial_of (entries_same c.args.terms.now)
