-- What is said of the actions of a check: they are within the limits, or one is past a limit, and not both.
use Rattle.std.specs.Prelude.{ℕ, ◌⊎◌, List}
use Rattle.lie_math.specs.Polynomial.{WholePolynomial}
use Rattle.lie_geometry.specs.Coordinates.{Space}
use Rattle.lie_geometry.specs.SolvedEquations.{SolvedEquation}
use Rattle.lie_ring.specs.declared.failures.PastKind.{PastKind}
use Rattle.lie_ring.specs.declared.failures.PolyFail.TheVariants.{Past}
use Rattle.lie_check.specs.Actions.{AreActionsWithin, IsActionCause}

-- the actions are within the limits, or one is past a limit
abbrev pub ActionsAreWithinOrPast : Type 0
ActionsAreWithinOrPast = (S : Space) (rs : List SolvedEquation) (V : ℕ → WholePolynomial)
    → AreActionsWithin S rs V ⊎ ((kind : PastKind) × IsActionCause S rs V (Past kind))

-- where they are within the limits, none is past one
abbrev pub ActionsAreNotWithinAndPast : Type 0
ActionsAreNotWithinAndPast = (S : Space) (rs : List SolvedEquation) (V : ℕ → WholePolynomial) (kind : PastKind)
    → AreActionsWithin S rs V → ¬ (IsActionCause S rs V (Past kind))
