use Rattle.lie_spans.proofs.WorkedValues.{bulks_of_kernel}
use Rattle.lie_spans.proofs.examples.bulks_of_kernel.Goals as goal

pub returns : goal.returns
returns c = bulks_of_kernel
