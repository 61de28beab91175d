use Rattle.lie_systems.proofs.WorkedValues.{triples_of_line_system}
use Rattle.lie_systems.proofs.examples.triples_of_line_system.Goals as goal

pub returns : goal.returns
returns c = triples_of_line_system
