use Rattle.lie_steps.proofs.RuleValues.{reduce_value}
use Rattle.lie_steps.proofs.rule_examples.reduce_value.Goals as goal

pub returns : goal.returns
returns c = reduce_value
