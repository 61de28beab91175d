-- The elimination of rows, step by step.
use Rattle.std.specs.Prelude.{ℕ, zero, suc, cond, List, [], ◌∷◌, ◌++◌, Option, Some, None}
use Rattle.std.specs.Prelude.{ℤ, pos, ◌+ℤ◌, ◌*ℤ◌, neg_ℤ, unsigned_abs, int_div, int_lt}
use Rattle.lie_math.specs.Integer.{is_zero_int}
use Rattle.lie_math.specs.CommonDivisors.{common_divisor}
use Rattle.lie_spans.specs.Rows.{Row, entry}
use Rattle.lie_spans.specs.Content.{primitive_part, primitive_parts}

-- ---- one row by another
-- a times the first row, minus b times the second
abbrev pub row_difference : ℤ → ℤ → Row → Row → Row
row_difference a b [] ys = []
row_difference a b (x ∷ xs) [] = (a *ℤ x) ∷ row_difference a b xs []
row_difference a b (x ∷ xs) (y ∷ ys) = (a *ℤ x +ℤ neg_ℤ (b *ℤ y)) ∷ row_difference a b xs ys

-- a over the greatest common divisor of a and b
abbrev pub over_common : ℤ → ℤ → ℤ
over_common a b = int_div a (pos (common_divisor (unsigned_abs a) (unsigned_abs b)))

-- the multiple of r less the multiple of the pivot row p that has 0 in column k
abbrev pub eliminated_row : Row → ℕ → Row → Row
eliminated_row p k r = row_difference (over_common (entry p k) (entry r k)) (over_common (entry r k) (entry p k)) r p

-- r with 0 in column k, divided by its content; where it has 0 there it is left as it is
abbrev pub cleared_row : Row → ℕ → Row → List Row
cleared_row p k r = cond (is_zero_int (entry r k)) (r ∷ []) (primitive_part (eliminated_row p k r))

abbrev pub cleared_rows : Row → ℕ → List Row → List Row
cleared_rows p k [] = []
cleared_rows p k (r ∷ rs) = cleared_row p k r ++ cleared_rows p k rs

-- ---- one column
abbrev pub found_after : Row → Option (Row × List Row) → Option (Row × List Row)
found_after r None = None
found_after r (Some q) = Some (q.0, r ∷ q.1)

-- the first row with an entry in column k, and the others in order
abbrev pub first_with : ℕ → List Row → Option (Row × List Row)
first_with k [] = None
first_with k (r ∷ rs) = cond (is_zero_int (entry r k)) (found_after r (first_with k rs)) (Some (r, rs))

-- the pivot rows and the other rows after column k: the row that was found becomes a pivot row, and clears the column of all others
abbrev pub column_cleared : ℕ → List Row → List Row → Option (Row × List Row) → List Row × List Row
column_cleared k ps rs None = (ps, rs)
column_cleared k ps rs (Some q) = (cleared_rows q.0 k ps ++ q.0 ∷ [], cleared_rows q.0 k q.1)

-- ---- all columns
-- n columns from column k on
abbrev pub columns_cleared : ℕ → ℕ → List Row → List Row → List Row
columns_cleared zero k ps rs = ps
columns_cleared (suc n) k ps rs = let s = column_cleared k ps rs (first_with k rs) in columns_cleared n (suc k) s.0 s.1

-- ---- signs
-- the first column where the row is not 0
abbrev pub pivot : Row → ℕ
pivot [] = 0
pivot (x ∷ xs) = cond (is_zero_int x) (suc (pivot xs)) 0

abbrev pub negated_row : Row → Row
negated_row [] = []
negated_row (x ∷ xs) = neg_ℤ x ∷ negated_row xs

-- positive at the pivot
abbrev pub turned_row : Row → Row
turned_row r = cond (int_lt (entry r (pivot r)) (pos 0)) (negated_row r) r

abbrev pub turned_rows : List Row → List Row
turned_rows [] = []
turned_rows (r ∷ rs) = turned_row r ∷ turned_rows rs

-- ---- the whole elimination of rows with n columns
unfoldable pub basis_of : ℕ → List Row → List Row
basis_of n rows = turned_rows (columns_cleared n 0 [] (primitive_parts rows))
