use Rattle.lie_systems.proofs.EquationOrder.{equation_cmp_total, equation_cmp-IsAntisymmetric}
use Rattle.lie_systems.proofs.forms.equation_order_is_total.Goals as goal

pub returns : goal.returns
returns c = (equation_cmp_total, equation_cmp-IsAntisymmetric)
