use Rattle.lie_math.proofs.WorkedValues.{degree_in_each}
use Rattle.lie_math.proofs.examples.degree_in_each.Goals as goal

pub returns : goal.returns
returns c = degree_in_each
