use Rattle.lie_steps.proofs.BulkValues.{split_makes_parts}
use Rattle.lie_steps.proofs.bulk_examples.split_makes_parts.Goals as goal

pub returns : goal.returns
returns c = split_makes_parts
