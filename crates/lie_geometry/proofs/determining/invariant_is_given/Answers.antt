use Rattle.lie_geometry.proofs.Fields.{invariant_is_given}
use Rattle.lie_geometry.proofs.determining.invariant_is_given.Goals as goal

pub returns : goal.returns
returns c = λ S s rs h high es is V on. invariant_is_given S s.0 s.1 rs h high es is V on
