use Rattle.lie_math.proofs.WorkedValues.{coefficient_of_x}
use Rattle.lie_math.proofs.examples.coefficient_of_x.Goals as goal

pub returns : goal.returns
returns c = coefficient_of_x
