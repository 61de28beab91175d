use Rattle.lie_systems.proofs.WorkLimits.{within_or_past}
use Rattle.lie_systems.proofs.works.made_is_within_or_past.Goals as goal

pub returns : goal.returns
returns c = within_or_past
