use Rattle.lie_steps.proofs.RuleValues.{no_foreign_by_own_variable}
use Rattle.lie_steps.proofs.rule_examples.no_foreign_by_own_variable.Goals as goal

pub returns : goal.returns
returns c = no_foreign_by_own_variable
