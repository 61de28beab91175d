use Rattle.lie_math.proofs.PartialDerivation.{partial_is_derivation, partial-variable}
use Rattle.lie_math.proofs.derivations.partial_is_derivation.Goals as goal

pub returns : goal.returns
returns c = λ v. (partial_is_derivation v, partial-variable v)
