use Rattle.lie_geometry.proofs.WorkedValues.{growth_invariant}
use Rattle.lie_geometry.proofs.examples.growth_invariant.Goals as goal

pub returns : goal.returns
returns c = growth_invariant
