-- Why a work of several actions gives nothing: want of memory, or a limit that one of its actions is past.
use Rattle.lie_systems.specs.Works.{Limit, OnCoefficients, OnExponents, OnTerms, OnOrders, OnUnknowns, OnWidth, Made, IsWorkPast}
use Rattle.lie_ring.specs.declared.failures.PastKind.{PastKind}
use Rattle.lie_ring.specs.declared.failures.PastKind.TheVariants.{Coefficient, Exponent, Terms, Order, Unknowns, Width}
use Rattle.lie_ring.specs.declared.failures.PolyFail.{PolyFail}
use Rattle.lie_ring.specs.declared.failures.PolyFail.TheVariants.{Past, NoMemory}

-- the limit that a kind of failure tells
abbrev pub limit_of : PastKind → Limit
limit_of Coefficient = OnCoefficients
limit_of Exponent = OnExponents
limit_of Terms = OnTerms
limit_of Order = OnOrders
limit_of Unknowns = OnUnknowns
limit_of Width = OnWidth

-- the answer is for want of memory, or tells a limit that the work is past
abbrev pub IsWorkCause : PolyFail → (Made → Type 0) → Type 0
IsWorkCause (Past kind) makes = IsWorkPast makes (limit_of kind)
IsWorkCause NoMemory makes = Unit {0}
