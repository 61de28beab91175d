use Rattle.lie_math.proofs.PrintedFirst.{by_exponents}
use Rattle.lie_math.proofs.sums.print_order_is_by_exponents.Goals as goal

pub returns : goal.returns
returns c = by_exponents
