-- Why a work on polynomials gives nothing.
use Rattle.lie_systems.specs.Works.{Made, OnCoefficients, OnExponents, OnTerms, IsWorkPast}
use Rattle.lie_ring.specs.declared.failures.PastKind.TheVariants.{Coefficient, Exponent, Terms}
use Rattle.lie_ring.specs.declared.failures.PolyFail.{PolyFail}
use Rattle.lie_ring.specs.declared.failures.PolyFail.TheVariants.{Past, NoMemory}

-- the answer is for want of memory, or tells a limit that the work is past; a polynomial has no other limit
abbrev pub IsWorkCause : PolyFail → (Made → Type 0) → Type 0
IsWorkCause (Past Coefficient) makes = IsWorkPast makes OnCoefficients
IsWorkCause (Past Exponent) makes = IsWorkPast makes OnExponents
IsWorkCause (Past Terms) makes = IsWorkPast makes OnTerms
IsWorkCause (Past kind) makes = ⊥
IsWorkCause NoMemory makes = Unit {0}
