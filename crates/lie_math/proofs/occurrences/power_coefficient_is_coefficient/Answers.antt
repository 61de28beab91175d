use Rattle.lie_math.proofs.Powers.{coefficient-power_coefficient}
use Rattle.lie_math.proofs.occurrences.power_coefficient_is_coefficient.Goals as goal

pub returns : goal.returns
returns c = coefficient-power_coefficient
