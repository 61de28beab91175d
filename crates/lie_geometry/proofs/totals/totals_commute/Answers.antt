use Rattle.lie_geometry.proofs.ProlongedFields.{totals_commute}
use Rattle.lie_geometry.proofs.totals.totals_commute.Goals as goal

pub returns : goal.returns
returns c = λ S s. totals_commute S s.0 s.1
