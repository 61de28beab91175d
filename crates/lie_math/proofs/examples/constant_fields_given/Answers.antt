use Rattle.lie_math.proofs.WorkedValues.{constant_fields_given}
use Rattle.lie_math.proofs.examples.constant_fields_given.Goals as goal

pub returns : goal.returns
returns c = constant_fields_given
