use Rattle.lie_systems.proofs.WorkedValues.{orders_up_to_64_are_within}
use Rattle.lie_systems.proofs.examples.orders_up_to_64_are_within.Goals as goal

pub returns : goal.returns
returns c = orders_up_to_64_are_within
