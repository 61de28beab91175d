use Rattle.lie_math.proofs.Dependence.{coefficient-partial}
use Rattle.lie_math.proofs.derivations.partial_coefficients.Goals as goal

pub returns : goal.returns
returns c = coefficient-partial
