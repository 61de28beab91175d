use Rattle.lie_steps.proofs.RuleValues.{isolation_of_highest_power}
use Rattle.lie_steps.proofs.rule_examples.isolation_of_highest_power.Goals as goal

pub returns : goal.returns
returns c = isolation_of_highest_power
