use Rattle.lie_steps.proofs.WorkedValues.{bulk_of_combination}
use Rattle.lie_steps.proofs.examples.bulk_of_combination.Goals as goal

pub returns : goal.returns
returns c = bulk_of_combination
