use Rattle.lie_math.proofs.ChainRule.{derivation_is_chain_rule}
use Rattle.lie_math.proofs.derivations.derivation_is_chain_rule.Goals as goal

pub returns : goal.returns
returns c = derivation_is_chain_rule
