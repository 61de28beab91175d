use Rattle.lie_steps.proofs.RuleValues.{no_reduction_by_other_variable}
use Rattle.lie_steps.proofs.rule_examples.no_reduction_by_other_variable.Goals as goal

pub returns : goal.returns
returns c = no_reduction_by_other_variable
