use Rattle.lie_geometry.proofs.Derivations.{total_is_derivation}
use Rattle.lie_geometry.proofs.totals.totals_are_derivations.Goals as goal

pub returns : goal.returns
returns c = total_is_derivation
