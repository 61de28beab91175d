use Rattle.lie_steps.proofs.RuleValues.{no_absent_of_unknown}
use Rattle.lie_steps.proofs.rule_examples.no_absent_of_unknown.Goals as goal

pub returns : goal.returns
returns c = no_absent_of_unknown
