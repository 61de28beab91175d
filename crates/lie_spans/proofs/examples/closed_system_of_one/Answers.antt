use Rattle.lie_spans.proofs.WorkedValues.{closed_system_of_one}
use Rattle.lie_spans.proofs.examples.closed_system_of_one.Goals as goal

pub returns : goal.returns
returns c = closed_system_of_one
