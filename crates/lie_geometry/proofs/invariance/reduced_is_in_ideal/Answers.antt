use Rattle.lie_geometry.proofs.IdealLists.{reduced_is_in_ideal}
use Rattle.lie_geometry.proofs.invariance.reduced_is_in_ideal.Goals as goal

pub returns : goal.returns
returns c = reduced_is_in_ideal
