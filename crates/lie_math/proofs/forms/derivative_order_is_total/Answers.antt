use Rattle.lie_math.specs.DerivativeOrder.{derivative_cmp_total, derivative_same}
use Rattle.lie_math.proofs.forms.derivative_order_is_total.Goals as goal

pub returns : goal.returns
returns c = (derivative_cmp_total, derivative_same)
