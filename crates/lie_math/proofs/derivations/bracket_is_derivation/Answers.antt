use Rattle.lie_math.proofs.Derivation.{bracket_is_derivation}
use Rattle.lie_math.proofs.derivations.bracket_is_derivation.Goals as goal

pub returns : goal.returns
returns c = λ D E d e. bracket_is_derivation d e
