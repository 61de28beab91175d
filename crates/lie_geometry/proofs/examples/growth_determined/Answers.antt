use Rattle.lie_geometry.proofs.WorkedValues.{growth_determined}
use Rattle.lie_geometry.proofs.examples.growth_determined.Goals as goal

pub returns : goal.returns
returns c = growth_determined
