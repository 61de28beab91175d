use Rattle.lie_determining.proofs.OpeningLimits.{opening_past_none_is_within}
use Rattle.lie_determining.proofs.laws.opening_past_none_is_within.Goals as goal

pub returns : goal.returns
returns c = opening_past_none_is_within
