use Rattle.lie_steps.proofs.RuleValues.{no_lowest_of_two_unknowns}
use Rattle.lie_steps.proofs.rule_examples.no_lowest_of_two_unknowns.Goals as goal

pub returns : goal.returns
returns c = no_lowest_of_two_unknowns
