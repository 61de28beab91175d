use Rattle.lie_math.proofs.WorkedValues.{derivative_of_sum}
use Rattle.lie_math.proofs.examples.derivative_of_sum.Goals as goal

pub returns : goal.returns
returns c = derivative_of_sum
