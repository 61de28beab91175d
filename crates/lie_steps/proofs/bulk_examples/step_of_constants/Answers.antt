use Rattle.lie_steps.proofs.BulkValues.{step_of_constants}
use Rattle.lie_steps.proofs.bulk_examples.step_of_constants.Goals as goal

pub returns : goal.returns
returns c = step_of_constants
