use Rattle.lie_math.specs.MonomialOrder.{monomial_cmp_total, monomial_cmp-IsAntisymmetric}
use Rattle.lie_math.proofs.sums.print_order_is_total.Goals as goal

pub returns : goal.returns
returns c = (monomial_cmp_total, monomial_cmp-IsAntisymmetric)
