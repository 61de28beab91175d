use Rattle.lie_geometry.proofs.FirstOrder.{condition_is_invariance}
use Rattle.lie_geometry.proofs.Fields.{component_in_z}
use Rattle.lie_math.specs.VectorField.{component}
use Rattle.lie_geometry.specs.FirstOrder.{one_of_each}
use Rattle.lie_geometry.proofs.invariance.first_order_is_invariant.Goals as goal

pub returns : goal.returns
returns c = λ h V in_h on. condition_is_invariance h (component V) in_h (component_in_z one_of_each V on.in_z 0) (component_in_z one_of_each V on.in_z 1)
