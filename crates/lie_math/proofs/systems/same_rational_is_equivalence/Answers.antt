use Rattle.lie_math.proofs.RationalPolynomial.{same_rational-itself, same_rational-swapped, same_rational-joined}
use Rattle.lie_math.proofs.systems.same_rational_is_equivalence.Goals as goal

pub returns : goal.returns
returns c = record { itself = same_rational-itself; swapped = same_rational-swapped; joined = same_rational-joined }
