use Rattle.lie_determining.proofs.OpeningLaws.{opening_is_unique}
use Rattle.lie_determining.proofs.laws.opening_is_unique.Goals as goal

pub returns : goal.returns
returns c = opening_is_unique
