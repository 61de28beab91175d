use Rattle.lie_spans.proofs.WorkedValues.{half_of_each}
use Rattle.lie_spans.proofs.examples.half_of_each.Goals as goal

pub returns : goal.returns
returns c = half_of_each
