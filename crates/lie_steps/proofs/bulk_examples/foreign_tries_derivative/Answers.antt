use Rattle.lie_steps.proofs.BulkValues.{foreign_tries_derivative}
use Rattle.lie_steps.proofs.bulk_examples.foreign_tries_derivative.Goals as goal

pub returns : goal.returns
returns c = foreign_tries_derivative
