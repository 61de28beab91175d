use Rattle.lie_steps.proofs.RuleValues.{integrate_value}
use Rattle.lie_steps.proofs.rule_examples.integrate_value.Goals as goal

pub returns : goal.returns
returns c = integrate_value
