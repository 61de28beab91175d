use Rattle.lie_determining.proofs.OpeningLaws.{opening_gives_invariant}
use Rattle.lie_determining.proofs.laws.opening_gives_invariant.Goals as goal

pub returns : goal.returns
returns c = opening_gives_invariant
