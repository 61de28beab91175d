use Rattle.lie_steps.proofs.RuleValues.{no_substitute_of_others_variable}
use Rattle.lie_steps.proofs.rule_examples.no_substitute_of_others_variable.Goals as goal

pub returns : goal.returns
returns c = no_substitute_of_others_variable
