use Rattle.lie_geometry.proofs.NormLaws.{bounded_is_within_limits}
use Rattle.lie_geometry.proofs.norms.bounded_is_within_limits.Goals as goal

pub returns : goal.returns
returns c = bounded_is_within_limits
