use Rattle.lie_geometry.proofs.Commutators.{prolonged_commutator}
use Rattle.lie_geometry.proofs.prolongation.commutator_is_prolonged.Goals as goal

pub returns : goal.returns
returns c = λ S s. prolonged_commutator S s.0 s.1
