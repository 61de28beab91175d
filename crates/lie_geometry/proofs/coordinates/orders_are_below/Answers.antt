use Rattle.lie_geometry.proofs.NumberOrder.{order_below}
use Rattle.lie_geometry.proofs.coordinates.orders_are_below.Goals as goal

pub returns : goal.returns
returns c = λ S s. order_below S s.0 s.1
