use Rattle.lie_spans.proofs.WorkedValues.{least_solution}
use Rattle.lie_spans.proofs.examples.least_solution.Goals as goal

pub returns : goal.returns
returns c = least_solution
