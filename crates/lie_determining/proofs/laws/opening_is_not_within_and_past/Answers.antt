use Rattle.lie_determining.proofs.OpeningLimits.{opening_is_not_within_and_past}
use Rattle.lie_determining.proofs.laws.opening_is_not_within_and_past.Goals as goal

pub returns : goal.returns
returns c = opening_is_not_within_and_past
