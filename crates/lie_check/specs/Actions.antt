-- The work of checking a field, and when it is past a limit.
use Rattle.std.specs.Prelude.{ℕ, ◌≤◌, ◌<◌, List}
use Rattle.std.specs.List.{Contains}
use Rattle.lie_math.specs.Derivation.{sum_of, numbers_below}
use Rattle.lie_math.specs.Limits.{absolute}
use Rattle.lie_math.specs.PartialDerivative.{partial}
use Rattle.lie_math.specs.Polynomial.{WholePolynomial, ◌*ᴾ◌}
use Rattle.lie_geometry.specs.Coordinates.{Space, coordinates_up_to, coordinate}
use Rattle.lie_geometry.specs.Invariance.{greatest_order, applied_prolongation}
use Rattle.lie_geometry.specs.Prolongation.{coefficient_at}
use Rattle.lie_geometry.specs.SolvedEquations.{SolvedEquation, difference}
use Rattle.lie_systems.specs.Works.{Made, APolynomial, IsWorkWithin, IsWorkPast}
use Rattle.lie_prolong.specs.Bulks.{bulk_at}
use Rattle.lie_ring.specs.declared.failures.PolyFail.{PolyFail}
use Rattle.lie_ring.specs.declared.failures.PolyFail.TheVariants.{Past, NoMemory}
use Rattle.lie_reduce.specs.Bulks.{reduction_bulk}
use Rattle.lie_reduce.specs.Kinds.{limit_of}

-- the bulk of the prolonged field applied to an equation, from the true coefficients
abbrev pub application_bulk : Space → List SolvedEquation → (ℕ → WholePolynomial) → SolvedEquation → WholePolynomial
application_bulk S rs V r = sum_of (numbers_below (coordinates_up_to S (greatest_order S rs)))
    (λ w. absolute (coefficient_at S V (coordinate S w)) *ᴾ partial w (absolute (difference r)))

-- what the actions make: a prolonged coefficient, made from the one before it, and for each equation the prolonged field applied to it and
-- the reduction of what that gives
pub data CheckMakes (S : Space) (rs : List SolvedEquation) (V : ℕ → WholePolynomial) : Made → Type 0 where
  coefficient : (w : ℕ) → S.p ≤ w → w < coordinates_up_to S (greatest_order S rs)
      → CheckMakes S rs V (APolynomial (bulk_at S V (coordinate S w)))
  application : (r : SolvedEquation) → Contains rs r → CheckMakes S rs V (APolynomial (application_bulk S rs V r))
  reduction : (r : SolvedEquation) → Contains rs r
      → CheckMakes S rs V (APolynomial (reduction_bulk rs (applied_prolongation S rs V r)))

-- no action is past a limit
abbrev pub AreActionsWithin : Space → List SolvedEquation → (ℕ → WholePolynomial) → Type 0
AreActionsWithin S rs V = IsWorkWithin (CheckMakes S rs V)

-- the answer is for want of memory, or tells a limit that an action is past
abbrev pub IsActionCause : Space → List SolvedEquation → (ℕ → WholePolynomial) → PolyFail → Type 0
IsActionCause S rs V (Past kind) = IsWorkPast (CheckMakes S rs V) (limit_of kind)
IsActionCause S rs V NoMemory = Unit {0}
