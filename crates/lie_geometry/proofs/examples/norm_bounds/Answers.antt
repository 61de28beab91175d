use Rattle.lie_geometry.proofs.WorkedValues.{norm_bounds}
use Rattle.lie_geometry.proofs.examples.norm_bounds.Goals as goal

pub returns : goal.returns
returns c = norm_bounds
