use Rattle.lie_geometry.proofs.Derivations.{applied_as_derivation}
use Rattle.lie_geometry.proofs.prolongation.applied_is_field.Goals as goal

pub returns : goal.returns
returns c = λ S s. applied_as_derivation S s.0 s.1
