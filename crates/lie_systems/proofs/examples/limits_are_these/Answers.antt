use Rattle.lie_systems.proofs.WorkedValues.{limits_are_these}
use Rattle.lie_systems.proofs.examples.limits_are_these.Goals as goal

pub returns : goal.returns
returns c = limits_are_these
