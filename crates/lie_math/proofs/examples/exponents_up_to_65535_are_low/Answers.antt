use Rattle.lie_math.proofs.WorkedValues.{exponents_up_to_65535_are_low}
use Rattle.lie_math.proofs.examples.exponents_up_to_65535_are_low.Goals as goal

pub returns : goal.returns
returns c = exponents_up_to_65535_are_low
