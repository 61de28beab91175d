use Rattle.lie_geometry.proofs.ProlongedFields.{coefficient_raised}
use Rattle.lie_geometry.proofs.prolongation.recursion_holds.Goals as goal

pub returns : goal.returns
returns c = λ S s V a k J in_q h l. coefficient_raised S s.0 s.1 a in_q V k J h l
