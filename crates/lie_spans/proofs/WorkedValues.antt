-- The worked values, by computing.
use Rattle.std.specs.Prelude.{◌≡◌, ℕ, zero, suc, [], ◌∷◌, pos, ◌*ℤ◌}
use Rattle.std.proofs.Common.{refl, arith}
use Rattle.lie_math.specs.FiniteSum as finite
use Rattle.lie_math.specs.FiniteSumLaws.{same_list}
use Rattle.lie_math.specs.LinearForm.{forms, no_form, form_term, apply}
use Rattle.lie_math.specs.PartialDerivative.{partial}
use Rattle.lie_math.specs.Polynomial.{terms, 0ᴾ, constant, variable, ◌*ᴾ◌}
use Rattle.lie_math.specs.CommonDivisors.{common_divisor}
use Rattle.lie_spans.specs.Elimination.{basis_of}
use Rattle.lie_spans.specs.Rows.{entry}
use Rattle.lie_spans.specs.Spans.{combination}
use Rattle.lie_spans.specs.Solutions.{kernel_of}
use Rattle.lie_spans.specs.Bulks.{basis_bulks, kernel_bulks}
use Rattle.lie_spans.specs.WorkedValues.{TwoRowsSpanAll, BulksOfTwoRows, OneDirection, KernelOfOneRow, BulksOfKernel, BulksOfSolution, LeastSolution, HalfOfEach, ColumnsInOrder, TwoFieldsSpan, RowsOfCondition, ClosedSystemOfOne}

pub two_rows_span_all : TwoRowsSpanAll
unfolding basis_of common_divisor
two_rows_span_all = refl

pub bulks_of_two_rows : BulksOfTwoRows
unfolding basis_bulks common_divisor
bulks_of_two_rows = refl

pub one_direction : OneDirection
unfolding basis_of common_divisor
one_direction = refl

pub kernel_of_one_row : KernelOfOneRow
unfolding kernel_of common_divisor
kernel_of_one_row = refl

pub bulks_of_kernel : BulksOfKernel
unfolding kernel_bulks common_divisor
bulks_of_kernel = refl

pub bulks_of_solution : BulksOfSolution
unfolding kernel_bulks common_divisor
bulks_of_solution = refl

pub least_solution : LeastSolution
unfolding kernel_bulks common_divisor
least_solution = refl

pub half_of_each : HalfOfEach
half_of_each = record { spanned = record { multiple = 2; positive = omega arith; numbers = λ i. pos 1; same = in_column }; fractions = λ i h. refl }
  where
    in_column : (k : ℕ) → pos 2 *ℤ entry (pos 1 ∷ pos 1 ∷ pos 1 ∷ []) k ≡ combination entry (λ i. pos 1) ((pos 2 ∷ pos 0 ∷ pos 1 ∷ []) ∷ (pos 0 ∷ pos 2 ∷ pos 1 ∷ []) ∷ []) k
    in_column zero = refl
    in_column (suc zero) = refl
    in_column (suc (suc zero)) = refl
    in_column (suc (suc (suc k))) = refl

pub columns_in_order : ColumnsInOrder
unfolding finite.of finite.none finite.term
columns_in_order = ((refl, (refl, (refl, (refl, tt)))), ((refl, (refl, (refl, tt))), ((refl, (refl, tt)), ((refl, tt), (tt, tt)))))

pub two_fields_span : TwoFieldsSpan
unfolding basis_of common_divisor finite.of finite.none finite.term
two_fields_span = λ i. record { denominator = 1; parts = same_list terms _ (constant (pos 1)) refl i ∷ same_list terms _ 0ᴾ refl i ∷ [] } ∷ record { denominator = 1; parts = same_list terms _ 0ᴾ refl i ∷ same_list terms _ (variable 1) refl i ∷ [] } ∷ []

pub rows_of_condition : RowsOfCondition
unfolding apply partial ◌*ᴾ◌ finite.of finite.none finite.term finite.plus finite.put
rows_of_condition = refl

pub closed_system_of_one : ClosedSystemOfOne
unfolding finite.of finite.none finite.term finite.plus
closed_system_of_one = λ i. record {
  unknowns = record { number = 1; variables = [] } ∷ [];
  equations = [];
  general = same_list forms _ (form_term (record { unknown = 1; counts = [] }) (variable 1)) refl i ∷ same_list forms _ no_form refl i ∷ [];
  next = 2;
}
