use Rattle.lie_geometry.proofs.DeterminingEquations.{determining_is}
use Rattle.lie_geometry.proofs.determining.determining_is_invariant.Goals as goal

pub returns : goal.returns
returns c = λ S s rs h high. determining_is S s.0 s.1 rs high h.factors
