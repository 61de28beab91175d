use Rattle.lie_systems.proofs.WorkedValues.{derivative_alone}
use Rattle.lie_systems.proofs.examples.derivative_alone.Goals as goal

pub returns : goal.returns
returns c = derivative_alone
