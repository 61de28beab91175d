use Rattle.lie_steps.proofs.RuleValues.{cross_value}
use Rattle.lie_steps.proofs.rule_examples.cross_value.Goals as goal

pub returns : goal.returns
returns c = cross_value
