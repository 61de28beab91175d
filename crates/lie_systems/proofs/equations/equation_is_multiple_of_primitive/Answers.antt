use Rattle.lie_systems.proofs.Primitive.{multiple_of_primitive}
use Rattle.lie_systems.proofs.equations.equation_is_multiple_of_primitive.Goals as goal

pub returns : goal.returns
returns c = multiple_of_primitive
