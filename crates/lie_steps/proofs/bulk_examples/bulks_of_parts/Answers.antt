use Rattle.lie_steps.proofs.BulkValues.{bulks_of_parts}
use Rattle.lie_steps.proofs.bulk_examples.bulks_of_parts.Goals as goal

pub returns : goal.returns
returns c = bulks_of_parts
