use Rattle.lie_math.proofs.WorkedValues.{square_of_sum}
use Rattle.lie_math.proofs.examples.square_of_sum.Goals as goal

pub returns : goal.returns
returns c = square_of_sum
