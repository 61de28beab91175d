use Rattle.lie_steps.proofs.RuleValues.{freed_value}
use Rattle.lie_steps.proofs.rule_examples.freed_value.Goals as goal

pub returns : goal.returns
returns c = freed_value
