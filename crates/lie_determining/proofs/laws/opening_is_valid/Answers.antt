use Rattle.lie_determining.proofs.OpeningLaws.{opening_is_valid}
use Rattle.lie_determining.proofs.laws.opening_is_valid.Goals as goal

pub returns : goal.returns
returns c = opening_is_valid
