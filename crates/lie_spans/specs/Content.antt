-- The content of a row, which is the greatest common divisor of its entries, and the row divided by it.
use Rattle.std.specs.Prelude.{ℕ, ◌==◌, cond, List, [], ◌∷◌, ◌++◌, pos, unsigned_abs, int_div}
use Rattle.lie_math.specs.CommonDivisors.{common_divisor}
use Rattle.lie_spans.specs.Rows.{Row}

abbrev pub row_content : Row → ℕ
row_content [] = 0
row_content (x ∷ xs) = common_divisor (unsigned_abs x) (row_content xs)

-- each entry over g
abbrev pub divided_row : ℕ → Row → Row
divided_row g [] = []
divided_row g (x ∷ xs) = int_div x (pos g) ∷ divided_row g xs

-- the row divided by its content; a zero row goes
abbrev pub primitive_part : Row → List Row
primitive_part r = cond (row_content r == 0) [] (divided_row (row_content r) r ∷ [])

abbrev pub primitive_parts : List Row → List Row
primitive_parts [] = []
primitive_parts (r ∷ rs) = primitive_part r ++ primitive_parts rs

-- the row itself; a zero row goes
abbrev pub nonzero_row : Row → List Row
nonzero_row r = cond (row_content r == 0) [] (r ∷ [])
