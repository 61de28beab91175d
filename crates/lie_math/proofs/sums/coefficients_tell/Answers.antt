use Rattle.lie_math.specs.Polynomial.{terms}
use Rattle.lie_math.specs.FiniteSumLaws.{ext}
use Rattle.lie_math.proofs.sums.coefficients_tell.Goals as goal

pub returns : goal.returns
returns c = ext terms
