use Rattle.lie_systems.proofs.WorkedValues.{divided_equation}
use Rattle.lie_systems.proofs.examples.divided_equation.Goals as goal

pub returns : goal.returns
returns c = divided_equation
