-- The bulks of the same operations for the field whose components are unknown functions.
use Rattle.std.specs.Prelude.{ℕ, List}
use Rattle.lie_math.specs.Derivation.{numbers_below}
use Rattle.lie_math.specs.FiniteSum as finite
use Rattle.lie_math.specs.Limits.{absolute}
use Rattle.lie_math.specs.LinearForm.{LinearForm, forms, each_coefficient, times_form}
use Rattle.lie_math.specs.Natural.{maxima}
use Rattle.lie_math.specs.PartialDerivative.{partial}
use Rattle.lie_math.specs.Powers.{degree_in}
use Rattle.lie_geometry.specs.Coordinates.{Space, coordinates_up_to, coordinate}
use Rattle.lie_geometry.specs.Invariance.{greatest_order}
use Rattle.lie_geometry.specs.SolvedEquations.{SolvedEquation, difference}
use Rattle.lie_geometry.specs.SymbolicProlongation.{forms_over, symbolic_coefficient_at}
use Rattle.lie_reduce.specs.Bulks.{reduction_bulk_by}

-- the greatest exponent of a variable in any coefficient of a form
abbrev pub degree_in_form : ℕ → LinearForm → ℕ
degree_in_form w E = finite.sum_over forms maxima (λ d a. degree_in w a) E

-- of the prolonged field applied to an equation, from the true coefficients
abbrev pub symbolic_application_bulk : Space → List SolvedEquation → SolvedEquation → LinearForm
symbolic_application_bulk S rs r = forms_over (numbers_below (coordinates_up_to S (greatest_order S rs)))
    (λ w. times_form (partial w (absolute (difference r))) (each_coefficient absolute (symbolic_coefficient_at S (coordinate S w))))

-- of the reduction of a form
abbrev pub symbolic_reduction_bulk : List SolvedEquation → LinearForm → LinearForm
symbolic_reduction_bulk rs E = each_coefficient (reduction_bulk_by rs (λ w. degree_in_form w E)) E
