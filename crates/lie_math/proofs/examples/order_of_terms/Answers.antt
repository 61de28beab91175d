use Rattle.lie_math.proofs.WorkedValues.{order_of_terms}
use Rattle.lie_math.proofs.examples.order_of_terms.Goals as goal

pub returns : goal.returns
returns c = order_of_terms
