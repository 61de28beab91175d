use Rattle.lie_systems.proofs.WorkLimits.{not_within_and_past}
use Rattle.lie_systems.proofs.works.made_is_not_both.Goals as goal

pub returns : goal.returns
returns c = not_within_and_past
