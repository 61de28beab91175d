use Rattle.lie_spans.proofs.WorkedValues.{rows_of_condition}
use Rattle.lie_spans.proofs.examples.rows_of_condition.Goals as goal

pub returns : goal.returns
returns c = rows_of_condition
