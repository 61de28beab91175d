use Rattle.std.proofs.Common.{refl}
use Rattle.lie_math.specs.Polynomial.{variable}
use Rattle.lie_math.specs.PolynomialRing.{polynomial_algebra}
use Rattle.lie_math.proofs.Evaluation.{value_is_unique}
use Rattle.lie_math.proofs.polynomials.homomorphism_is_substitution.Goals as goal

pub returns : goal.returns
returns c = λ h is. value_is_unique polynomial_algebra (λ v. h (variable v)) h is.constants (λ v. refl) is.sums is.products
