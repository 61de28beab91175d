use Rattle.lie_check.proofs.ActionLimits.{actions_are_within_or_past}
use Rattle.lie_check.proofs.laws.actions_are_within_or_past.Goals as goal

pub returns : goal.returns
returns c = actions_are_within_or_past
