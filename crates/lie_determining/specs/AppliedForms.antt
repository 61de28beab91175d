-- Forms, one for each coordinate by its number, applied to a polynomial as the coefficients of a field.
use Rattle.std.specs.Prelude.{◌≡◌, ℕ, ◌<◌, ◌⊎◌, List, length, slice_index_or}
use Rattle.std.specs.List.{Contains}
use Rattle.lie_math.specs.Derivation.{numbers_below}
use Rattle.lie_math.specs.Limits.{absolute}
use Rattle.lie_math.specs.LinearForm.{LinearForm, no_form, each_coefficient, times_form}
use Rattle.lie_math.specs.PartialDerivative.{partial}
use Rattle.lie_math.specs.Polynomial.{WholePolynomial}
use Rattle.lie_math.specs.Variables.{FreeOf}
use Rattle.lie_geometry.specs.Coordinates.{Space, coordinates_up_to, coordinate}
use Rattle.lie_geometry.specs.Invariance.{greatest_order}
use Rattle.lie_geometry.specs.SolvedEquations.{SolvedEquation, difference}
use Rattle.lie_geometry.specs.SymbolicProlongation.{forms_over, symbolic_coefficient_at}

-- by their numbers the coefficients of the field of unknown functions at the coordinates up to the greatest order in the equations; any
-- form at a coordinate that no equation has
pub record AreCoordinateForms (S : Space) (rs : List SolvedEquation) (Fs : List LinearForm) : Type 0 where
  pub count : length Fs ≡ coordinates_up_to S (greatest_order S rs)
  pub at : (w : ℕ) → w < length Fs → (slice_index_or Fs w no_form ≡ symbolic_coefficient_at S (coordinate S w))
      ⊎ ((r : SolvedEquation) → Contains rs r → FreeOf w (difference r))

-- the sum of the forms times the derivatives by their coordinates
abbrev pub applied_forms : List LinearForm → WholePolynomial → LinearForm
applied_forms Fs P = forms_over (numbers_below (length Fs)) (λ w. times_form (partial w P) (slice_index_or Fs w no_form))

-- the same with absolute values
abbrev pub applied_forms_bulk : List LinearForm → WholePolynomial → LinearForm
applied_forms_bulk Fs P = forms_over (numbers_below (length Fs))
    (λ w. times_form (partial w (absolute P)) (each_coefficient absolute (slice_index_or Fs w no_form)))
