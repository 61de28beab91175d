use Rattle.std.proofs.Common.{ap, ◌∙◌}
use Rattle.lie_math.specs.Powers.{power_coefficient}
use Rattle.lie_math.proofs.Powers.{power_coefficients_nothing, power_coefficient-0ᴾ}
use Rattle.lie_math.proofs.occurrences.power_coefficients_tell.Goals as goal

pub returns : goal.returns
returns c = λ v p. (λ e i. ap (power_coefficient v i) e ∙ power_coefficient-0ᴾ v i, power_coefficients_nothing v p)
