use Rattle.lie_steps.proofs.BulkValues.{cross_tries_combination}
use Rattle.lie_steps.proofs.bulk_examples.cross_tries_combination.Goals as goal

pub returns : goal.returns
returns c = cross_tries_combination
