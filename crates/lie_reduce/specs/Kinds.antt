-- The kinds of limits in an answer are those of works.
use Rattle.lie_systems.specs.Works.{Limit, OnCoefficients, OnExponents, OnTerms, OnOrders, OnUnknowns, OnWidth}
use Rattle.lie_ring.specs.declared.failures.PastKind.{PastKind}
use Rattle.lie_ring.specs.declared.failures.PastKind.TheVariants.{Coefficient, Exponent, Terms, Order, Unknowns, Width}

abbrev pub limit_of : PastKind → Limit
limit_of Coefficient = OnCoefficients
limit_of Exponent = OnExponents
limit_of Terms = OnTerms
limit_of Order = OnOrders
limit_of Unknowns = OnUnknowns
limit_of Width = OnWidth
