use Rattle.lie_geometry.proofs.WorkedValues.{halves_reduced}
use Rattle.lie_geometry.proofs.examples.halves_reduced.Goals as goal

pub returns : goal.returns
returns c = halves_reduced
