use Rattle.lie_steps.proofs.RuleValues.{no_zero_of_derivative}
use Rattle.lie_steps.proofs.rule_examples.no_zero_of_derivative.Goals as goal

pub returns : goal.returns
returns c = no_zero_of_derivative
