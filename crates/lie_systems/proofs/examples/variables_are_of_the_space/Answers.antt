use Rattle.lie_systems.proofs.WorkedValues.{variables_are_of_the_space}
use Rattle.lie_systems.proofs.examples.variables_are_of_the_space.Goals as goal

pub returns : goal.returns
returns c = variables_are_of_the_space
