use Rattle.lie_systems.proofs.WorkedValues.{line_system_is_valid}
use Rattle.lie_systems.proofs.examples.line_system_is_valid.Goals as goal

pub returns : goal.returns
returns c = line_system_is_valid
