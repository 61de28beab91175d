use Rattle.lie_math.proofs.PartialDerivative.{partial-*ᴾ}
use Rattle.lie_math.proofs.derivations.product_rule.Goals as goal

pub returns : goal.returns
returns c = partial-*ᴾ
