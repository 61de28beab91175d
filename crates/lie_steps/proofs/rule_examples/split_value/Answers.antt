use Rattle.lie_steps.proofs.RuleValues.{split_value}
use Rattle.lie_steps.proofs.rule_examples.split_value.Goals as goal

pub returns : goal.returns
returns c = split_value
