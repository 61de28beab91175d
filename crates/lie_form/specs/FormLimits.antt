-- The limits of linear forms, and why an operation gives none.
use Rattle.std.specs.Prelude.{◌≡◌, ℕ, ◌<◌}
use Rattle.lie_math.specs.Counts.{Derivative, order}
use Rattle.lie_math.specs.Derivation.{is_below}
use Rattle.lie_math.specs.FiniteSum as finite
use Rattle.lie_math.specs.LinearForm.{forms, LinearForm}
use Rattle.lie_math.specs.Polynomial.{0ᴾ}
use Rattle.lie_math.specs.Variables.{IsIn}
use Rattle.lie_geometry.specs.Coordinates.{Space, coordinates_up_to}
use Rattle.lie_systems.specs.Bulk.{HasWideNumber, HasHighExponent, HasManyTriples, HasHighOrder}
use Rattle.lie_ring.specs.Causes.{IsCause}
use Rattle.lie_ring.specs.declared.failures.PastKind.{PastKind}
use Rattle.lie_ring.specs.declared.failures.PastKind.TheVariants.{Coefficient, Exponent, Terms, Order, Unknowns, Width}
use Rattle.lie_ring.specs.declared.failures.PolyFail.{PolyFail}
use Rattle.lie_ring.specs.declared.failures.PolyFail.TheVariants.{Past, NoMemory}

-- the form is past the limit of this kind
abbrev pub IsFormPast : PastKind → LinearForm → Type 0
IsFormPast Coefficient E = HasWideNumber E
IsFormPast Exponent E = HasHighExponent E
IsFormPast Terms E = HasManyTriples E
IsFormPast Order E = HasHighOrder E
IsFormPast Unknowns E = ⊥
IsFormPast Width E = ⊥

-- the answer is for want of memory, or tells a limit that the bulk is past
abbrev pub IsFormCause : PolyFail → LinearForm → Type 0
IsFormCause (Past kind) bulk = IsFormPast kind bulk
IsFormCause NoMemory bulk = Unit {0}

-- the same of the coefficient of one derivative
abbrev pub IsFormCoefficientCause : PolyFail → LinearForm → Type 0
IsFormCoefficientCause fail bulk = (d : Derivative) × IsCause fail (finite.value forms bulk d)

-- each coefficient is a polynomial in jets of order at most n
abbrev pub HasJetsUpTo : Space → ℕ → LinearForm → Type 0
HasJetsUpTo S n E = (d : Derivative) → IsIn (is_below (coordinates_up_to S n)) (finite.value forms E d)

-- no derivative of an order past n occurs
abbrev pub HasOrdersUpTo : ℕ → LinearForm → Type 0
HasOrdersUpTo n E = (d : Derivative) → n < order d.counts → finite.value forms E d ≡ 0ᴾ
