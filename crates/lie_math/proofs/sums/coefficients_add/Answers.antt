use Rattle.lie_math.specs.Polynomial.{terms}
use Rattle.lie_math.specs.FiniteSumLaws.{value-plus}
use Rattle.lie_math.proofs.sums.coefficients_add.Goals as goal

pub returns : goal.returns
returns c = value-plus terms
