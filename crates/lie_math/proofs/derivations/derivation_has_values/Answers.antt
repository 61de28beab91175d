use Rattle.lie_math.proofs.ChainRule.{derivation_is_derivation, derivation-variable}
use Rattle.lie_math.proofs.derivations.derivation_has_values.Goals as goal

pub returns : goal.returns
returns c = λ d. (derivation_is_derivation d, derivation-variable d)
