use Rattle.lie_geometry.proofs.WorkedValues.{field_prolonged}
use Rattle.lie_geometry.proofs.examples.field_prolonged.Goals as goal

pub returns : goal.returns
returns c = field_prolonged
