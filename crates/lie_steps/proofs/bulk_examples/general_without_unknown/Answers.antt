use Rattle.lie_steps.proofs.BulkValues.{general_without_unknown}
use Rattle.lie_steps.proofs.bulk_examples.general_without_unknown.Goals as goal

pub returns : goal.returns
returns c = general_without_unknown
