use Rattle.lie_steps.proofs.RuleValues.{lowest_value}
use Rattle.lie_steps.proofs.rule_examples.lowest_value.Goals as goal

pub returns : goal.returns
returns c = lowest_value
