use Rattle.std.proofs.Common.{◌≡◌, take, map}
use Rattle.std.specs.Prelude.{unsigned_abs}
use Rattle.lie_integral.specs.Integrals.{integrated_term}
use Rattle.lie_integral.proofs.integral.integrated_polynomial.Given as goal

abbrev pub invariant-loop-term : goal.invariant-loop-term
invariant-loop-term l = l.terms.items ≡ map
    (integrated_term l.integration.number l.integration.var l.integration.times (unsigned_abs l.denominator))
    (take l.term-index l.term-items)
