use Rattle.lie_systems.proofs.WorkLimits.{work_within_or_past}
use Rattle.lie_systems.proofs.works.work_is_within_or_past.Goals as goal

pub returns : goal.returns
returns c = work_within_or_past
