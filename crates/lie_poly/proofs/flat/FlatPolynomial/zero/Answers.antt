use Rattle.std.proofs.Common.{ap}
use Rattle.lie_math.specs.FiniteSum as finite
use Rattle.lie_math.specs.Polynomial.{polynomial_of}
use Rattle.lie_ring.specs.Entries.{entries}
use Rattle.lie_poly.proofs.flat.FlatPolynomial.zero.Goals as goal

pub returns : goal.returns
unfolding finite.none
returns g c = ap (λ ts. polynomial_of (entries g.C.Ring.value ts)) c.new.ensures.items
