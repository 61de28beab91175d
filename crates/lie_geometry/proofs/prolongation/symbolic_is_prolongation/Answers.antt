use Rattle.lie_geometry.proofs.SymbolicProlongation.{apply_symbolic_coefficient, apply_symbolic_application}
use Rattle.lie_geometry.proofs.prolongation.symbolic_is_prolongation.Goals as goal

pub returns : goal.returns
returns c = λ S s F in_z. (apply_symbolic_coefficient S s.0 s.1 F in_z, apply_symbolic_application S s.0 s.1 F in_z)
