use Rattle.lie_steps.proofs.RuleValues.{absent_value}
use Rattle.lie_steps.proofs.rule_examples.absent_value.Goals as goal

pub returns : goal.returns
returns c = absent_value
