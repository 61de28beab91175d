use Rattle.lie_steps.proofs.RuleValues.{substitute_value}
use Rattle.lie_steps.proofs.rule_examples.substitute_value.Goals as goal

pub returns : goal.returns
returns c = substitute_value
