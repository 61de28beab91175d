use Rattle.lie_math.proofs.PartialDerivative.{partial_commutes}
use Rattle.lie_math.proofs.derivations.partials_commute.Goals as goal

pub returns : goal.returns
returns c = partial_commutes
