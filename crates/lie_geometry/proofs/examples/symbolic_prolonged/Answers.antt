use Rattle.lie_geometry.proofs.WorkedValues.{symbolic_prolonged}
use Rattle.lie_geometry.proofs.examples.symbolic_prolonged.Goals as goal

pub returns : goal.returns
returns c = symbolic_prolonged
