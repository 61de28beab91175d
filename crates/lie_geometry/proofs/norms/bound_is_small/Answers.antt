use Rattle.lie_geometry.proofs.NormLaws.{bound_is_small}
use Rattle.lie_geometry.proofs.norms.bound_is_small.Goals as goal

pub returns : goal.returns
returns c = bound_is_small
