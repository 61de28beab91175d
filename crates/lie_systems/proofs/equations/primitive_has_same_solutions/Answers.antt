use Rattle.lie_systems.proofs.Primitive.{primitive_same_solutions}
use Rattle.lie_systems.proofs.equations.primitive_has_same_solutions.Goals as goal

pub returns : goal.returns
returns c = primitive_same_solutions
