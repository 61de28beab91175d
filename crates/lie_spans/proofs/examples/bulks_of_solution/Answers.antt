use Rattle.lie_spans.proofs.WorkedValues.{bulks_of_solution}
use Rattle.lie_spans.proofs.examples.bulks_of_solution.Goals as goal

pub returns : goal.returns
returns c = bulks_of_solution
