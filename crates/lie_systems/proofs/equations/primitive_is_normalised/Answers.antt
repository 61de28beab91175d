use Rattle.lie_systems.proofs.Primitive.{primitive_normalised}
use Rattle.lie_systems.proofs.equations.primitive_is_normalised.Goals as goal

pub returns : goal.returns
returns c = primitive_normalised
