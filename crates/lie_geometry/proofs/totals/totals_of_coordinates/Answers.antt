use Rattle.lie_geometry.proofs.ProlongedFields.{total_of_independent, total_of_jet}
use Rattle.lie_geometry.proofs.totals.totals_of_coordinates.Goals as goal

pub returns : goal.returns
returns c = λ S s i h. (total_of_independent S s.0 s.1 i, total_of_jet S s.0 s.1 i h)
