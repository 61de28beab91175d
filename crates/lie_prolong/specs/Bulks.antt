-- The bulk of a prolonged coefficient: its defining formula with absolute values and plus signs, made from the true coefficient before it.
use Rattle.std.specs.Prelude.{ℕ, ◌+◌, List, [], ◌∷◌, map}
use Rattle.lie_math.specs.Counts.{raise}
use Rattle.lie_math.specs.Derivation.{sum_of, numbers_below}
use Rattle.lie_math.specs.Limits.{absolute}
use Rattle.lie_math.specs.Polynomial.{WholePolynomial, ◌+ᴾ◌, ◌*ᴾ◌}
use Rattle.lie_math.specs.VectorField.{VectorField}
use Rattle.lie_geometry.specs.Coordinates.{Space, Coordinate, independent, jet}
use Rattle.lie_geometry.specs.Prolongation.{indices, jet_variable, total_derivative, counts_of_indices, prolonged_coefficient}

-- the field with the absolute values of all coefficients
abbrev pub absolute_field : VectorField → VectorField
absolute_field V = record { denominator = V.denominator; parts = map absolute V.parts }

-- the sum over the independent variables: the total derivative of the component by x_k, times the jet J of the dependent variable a
-- derived once more
abbrev pub multiples : Space → (ℕ → WholePolynomial) → ℕ → ℕ → List ℕ → WholePolynomial
multiples S V k a J = sum_of (numbers_below S.p) (λ i. total_derivative S k (V i) *ᴾ jet_variable S a (raise i J))

-- of the dependent variable a, by its variables of derivation
abbrev pub coefficient_bulk : Space → (ℕ → WholePolynomial) → ℕ → List ℕ → WholePolynomial
coefficient_bulk S V a [] = absolute (V (S.p + a))
coefficient_bulk S V a (k ∷ W) = total_derivative S k (absolute (prolonged_coefficient S V a W)) +ᴾ multiples S (λ i. absolute (V i)) k a
    (counts_of_indices S W)

abbrev pub bulk_at : Space → (ℕ → WholePolynomial) → Coordinate → WholePolynomial
bulk_at S V (independent i) = absolute (V i)
bulk_at S V (jet a J) = coefficient_bulk S V a (indices J)
