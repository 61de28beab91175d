use Rattle.lie_steps.proofs.RuleValues.{no_lowest_of_coefficient}
use Rattle.lie_steps.proofs.rule_examples.no_lowest_of_coefficient.Goals as goal

pub returns : goal.returns
returns c = no_lowest_of_coefficient
