use Rattle.lie_math.specs.PolynomialRing.{polynomial_algebra}
use Rattle.lie_math.proofs.Evaluation.{value_in-constant, value_in-plus, value_in-times, value_in-variable}
use Rattle.lie_math.proofs.polynomials.substitution_is_homomorphism.Goals as goal

pub returns : goal.returns
returns c = λ s. (
  record { constants = value_in-constant polynomial_algebra s; sums = value_in-plus polynomial_algebra s; products = value_in-times polynomial_algebra s },
  value_in-variable polynomial_algebra s,
)
