use Rattle.lie_geometry.proofs.NormLaws.{absolutes_have_norm}
use Rattle.lie_geometry.proofs.norms.absolutes_have_norm.Goals as goal

pub returns : goal.returns
returns c = absolutes_have_norm
