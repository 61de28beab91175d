use Rattle.lie_steps.proofs.RuleValues.{foreign_value}
use Rattle.lie_steps.proofs.rule_examples.foreign_value.Goals as goal

pub returns : goal.returns
returns c = foreign_value
