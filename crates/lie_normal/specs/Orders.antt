-- Orders of derivatives that are derived once more, against the limit on them.
use Rattle.std.specs.Prelude.{◌≡◌, ℕ, ◌<◌, ◌≤◌, true, List}
use Rattle.lie_math.specs.Counts.{Derivative, order}
use Rattle.lie_math.specs.LinearSystem.{Unknown}
use Rattle.lie_math.specs.Polynomial.{WholePolynomial}
use Rattle.lie_systems.specs.Bulk.{greatest_form_order}
use Rattle.lie_steps.specs.Equations.{depends}

-- a derivative with its coefficient
abbrev pub Entry : Type 0
Entry = Derivative × WholePolynomial

-- derived once more it has an order past the limit
abbrev pub RisesHigh : List Unknown → ℕ → Entry → Type 0
RisesHigh unknowns i e = (greatest_form_order ≤ order (e.0).counts) × (depends unknowns (e.0).unknown i ≡ true)

-- where it is derived once more, it stays within the limit
abbrev pub StaysLow : List Unknown → ℕ → Entry → Type 0
StaysLow unknowns i e = depends unknowns (e.0).unknown i ≡ true → order (e.0).counts < greatest_form_order
