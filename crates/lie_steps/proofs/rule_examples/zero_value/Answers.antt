use Rattle.lie_steps.proofs.RuleValues.{zero_value}
use Rattle.lie_steps.proofs.rule_examples.zero_value.Goals as goal

pub returns : goal.returns
returns c = zero_value
