-- The bulk of a prolonged coefficient of the field whose components are the unknowns: its defining formula with absolute values and plus
-- signs, made from the true coefficient before it.
use Rattle.std.specs.Prelude.{ℕ, ◌+◌, List, [], ◌∷◌}
use Rattle.lie_math.specs.Counts.{raise}
use Rattle.lie_math.specs.Derivation.{numbers_below}
use Rattle.lie_math.specs.Limits.{absolute}
use Rattle.lie_math.specs.LinearForm.{LinearForm, ◌+ᶠ◌, each_coefficient, times_form}
use Rattle.lie_geometry.specs.Coordinates.{Space, Coordinate, independent, jet}
use Rattle.lie_geometry.specs.Prolongation.{indices, jet_variable, counts_of_indices}
use Rattle.lie_geometry.specs.SymbolicProlongation.{forms_over, unknown, symbolic_total, symbolic_coefficient}

-- the jet J of the dependent variable a derived once more by x_i, times the total derivative by x_k of the i-th component
abbrev pub symbolic_multiple : Space → ℕ → ℕ → List ℕ → ℕ → LinearForm
symbolic_multiple S k a J i = times_form (jet_variable S a (raise i J)) (symbolic_total S k (unknown i))

-- the sum of these over the independent variables
abbrev pub symbolic_multiples : Space → ℕ → ℕ → List ℕ → LinearForm
symbolic_multiples S k a J = forms_over (numbers_below S.p) (symbolic_multiple S k a J)

-- of the dependent variable a, by its variables of derivation
abbrev pub symbolic_coefficient_bulk : Space → ℕ → List ℕ → LinearForm
symbolic_coefficient_bulk S a [] = unknown (S.p + a)
symbolic_coefficient_bulk S a (k ∷ W) = symbolic_total S k (each_coefficient absolute (symbolic_coefficient S a W)) +ᶠ symbolic_multiples
    S k a (counts_of_indices S W)

abbrev pub symbolic_bulk_at : Space → Coordinate → LinearForm
symbolic_bulk_at S (independent i) = unknown i
symbolic_bulk_at S (jet a J) = symbolic_coefficient_bulk S a (indices J)
