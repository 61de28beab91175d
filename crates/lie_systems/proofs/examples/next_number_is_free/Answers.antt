use Rattle.lie_systems.proofs.WorkedValues.{next_number_is_free}
use Rattle.lie_systems.proofs.examples.next_number_is_free.Goals as goal

pub returns : goal.returns
returns c = next_number_is_free
