use Rattle.lie_systems.proofs.Unique.{primitive-times}
use Rattle.lie_systems.proofs.equations.primitive_of_multiple.Goals as goal

pub returns : goal.returns
returns c = primitive-times
