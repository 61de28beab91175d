use Rattle.lie_geometry.proofs.WorkedValues.{plane_unknowns}
use Rattle.lie_geometry.proofs.examples.plane_unknowns.Goals as goal

pub returns : goal.returns
returns c = plane_unknowns
