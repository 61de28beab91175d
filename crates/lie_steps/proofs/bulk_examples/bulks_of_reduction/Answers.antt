use Rattle.lie_steps.proofs.BulkValues.{bulks_of_reduction}
use Rattle.lie_steps.proofs.bulk_examples.bulks_of_reduction.Goals as goal

pub returns : goal.returns
returns c = bulks_of_reduction
