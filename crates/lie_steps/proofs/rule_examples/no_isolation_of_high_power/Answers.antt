use Rattle.lie_steps.proofs.RuleValues.{no_isolation_of_high_power}
use Rattle.lie_steps.proofs.rule_examples.no_isolation_of_high_power.Goals as goal

pub returns : goal.returns
returns c = no_isolation_of_high_power
