use Rattle.lie_math.proofs.WorkedValues.{half_of_x}
use Rattle.lie_math.proofs.examples.half_of_x.Goals as goal

pub returns : goal.returns
returns c = half_of_x
