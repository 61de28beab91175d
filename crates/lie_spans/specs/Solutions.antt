-- The solutions that are read off the kept rows, one for each column where no kept row ends.
use Rattle.std.specs.Prelude.{ℕ, zero, suc, ◌*◌, ◌/◌, ◌==◌, cond, List, [], ◌∷◌, ◌++◌, Option, Some, None}
use Rattle.std.specs.Prelude.{ℤ, pos, ◌*ℤ◌, neg_ℤ, unsigned_abs, int_div}
use Rattle.lie_math.specs.CommonDivisors.{common_divisor}
use Rattle.lie_math.specs.Integer.{is_zero_int}
use Rattle.lie_spans.specs.Rows.{Row, entry}
use Rattle.lie_spans.specs.Content.{primitive_part}
use Rattle.lie_spans.specs.KeptRows.{last_column, ending_at, kept_rows}

-- ---- one solution
abbrev pub common_multiple : ℕ → ℕ → ℕ
common_multiple a b = a / common_divisor a b * b

-- the least common multiple of the last entries of the rows with an entry in column f
abbrev pub last_multiple : ℕ → List Row → ℕ
last_multiple f [] = 1
last_multiple f (q ∷ qs) =
    cond (is_zero_int (entry q f)) (last_multiple f qs) (common_multiple (unsigned_abs (entry q (last_column q))) (last_multiple f qs))

-- what the solution with m in column f has where the kept row q ends
abbrev pub answer : ℕ → ℕ → Row → ℤ
answer f m q = neg_ℤ (entry q f *ℤ int_div (pos m) (entry q (last_column q)))

abbrev pub answer_of : ℕ → ℕ → Option Row → ℤ
answer_of f m None = pos 0
answer_of f m (Some q) = answer f m q

-- the entry in column j of the solution for the free column f
abbrev pub solution_at : ℕ → List Row → ℕ → ℤ
solution_at f kept j = cond (j == f) (pos (last_multiple f kept)) (answer_of f (last_multiple f kept) (ending_at j kept))

-- n columns from j on
abbrev pub row_from : (ℕ → ℤ) → ℕ → ℕ → Row
row_from w zero j = []
row_from w (suc n) j = w j ∷ row_from w n (suc j)

abbrev pub solution_row : ℕ → List Row → ℕ → Row
solution_row n kept f = row_from (solution_at f kept) n 0

-- ---- all solutions
-- the one for column f, divided by its content; none where a kept row ends
abbrev pub solution_in : ℕ → List Row → ℕ → Option Row → List Row
solution_in n kept f (Some q) = []
solution_in n kept f None = primitive_part (solution_row n kept f)

-- those for c columns from f on
abbrev pub solution_rows : ℕ → List Row → ℕ → ℕ → List Row
solution_rows n kept zero f = []
solution_rows n kept (suc c) f = solution_in n kept f (ending_at f kept) ++ solution_rows n kept c (suc f)

-- ---- the whole elimination of rows with n columns, and its solutions
unfoldable pub kernel_of : ℕ → List Row → List Row
kernel_of n rows = solution_rows n (kept_rows n [] rows) n 0
