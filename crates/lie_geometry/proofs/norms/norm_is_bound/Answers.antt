use Rattle.lie_geometry.proofs.NormLaws.{norm_is_bound}
use Rattle.lie_geometry.proofs.norms.norm_is_bound.Goals as goal

pub returns : goal.returns
returns c = norm_is_bound
