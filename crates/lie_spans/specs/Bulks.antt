-- What the actions of the two eliminations make: numbers, with absolute values and plus signs.
use Rattle.std.specs.Prelude.{ℕ, zero, suc, ◌+◌, ◌*◌, cond, List, [], ◌∷◌, ◌++◌, map, ℤ, unsigned_abs, Option, Some, None}
use Rattle.std.specs.List.{Contains}
use Rattle.lie_math.specs.Integer.{is_zero_int}
use Rattle.lie_systems.specs.Works.{Made, ANumber}
use Rattle.lie_spans.specs.Rows.{Row, entry}
use Rattle.lie_spans.specs.Content.{nonzero_row, primitive_parts}
use Rattle.lie_spans.specs.Elimination.{over_common, first_with, column_cleared}
use Rattle.lie_spans.specs.KeptRows.{last_column, ending_at, lowered_in, lowered_rows, kept_with, kept_rows}
use Rattle.lie_spans.specs.Solutions.{solution_row}

-- ---- one row by another
-- the entries of a times the first row, minus b times the second
abbrev pub difference_bulks : ℤ → ℤ → Row → Row → List ℕ
difference_bulks a b [] ys = []
difference_bulks a b (x ∷ xs) [] = (unsigned_abs a * unsigned_abs x) ∷ difference_bulks a b xs []
difference_bulks a b (x ∷ xs) (y ∷ ys) =
    (unsigned_abs a * unsigned_abs x + unsigned_abs b * unsigned_abs y) ∷ difference_bulks a b xs ys

-- nothing is done where r has 0 in column k
abbrev pub elimination_bulks : Row → ℕ → Row → List ℕ
elimination_bulks p k r =
    cond (is_zero_int (entry r k)) [] (difference_bulks (over_common (entry p k) (entry r k)) (over_common (entry r k) (entry p k)) r p)

abbrev pub clearing_bulks : Row → ℕ → List Row → List ℕ
clearing_bulks p k [] = []
clearing_bulks p k (r ∷ rs) = elimination_bulks p k r ++ clearing_bulks p k rs

-- ---- from the first column on
-- of one column, where the pivot row and the others are these
abbrev pub column_bulks : ℕ → List Row → Option (Row × List Row) → List ℕ
column_bulks k ps None = []
column_bulks k ps (Some q) = clearing_bulks q.0 k ps ++ clearing_bulks q.0 k q.1

-- of n columns from column k on
abbrev pub columns_bulks : ℕ → ℕ → List Row → List Row → List ℕ
columns_bulks zero k ps rs = []
columns_bulks (suc n) k ps rs =
    let s = column_cleared k ps rs (first_with k rs) in column_bulks k ps (first_with k rs) ++ columns_bulks n (suc k) s.0 s.1

unfoldable pub basis_bulks : ℕ → List Row → List ℕ
basis_bulks n rows = columns_bulks n 0 [] (primitive_parts rows)

-- ---- from the last column on
abbrev pub lowered_in_bulks : ℕ → List Row → Option Row → List ℕ
lowered_in_bulks k rs None = []
lowered_in_bulks k rs (Some q) = clearing_bulks q k rs

abbrev pub lowered_bulks : ℕ → List Row → List Row → List ℕ
lowered_bulks zero kept rs = []
lowered_bulks (suc k) kept rs =
    lowered_in_bulks k rs (ending_at k kept) ++ lowered_bulks k kept (lowered_in k rs (ending_at k kept))

abbrev pub kept_with_bulks : List Row → List Row → List ℕ
kept_with_bulks kept [] = []
kept_with_bulks kept (r ∷ rs) = clearing_bulks r (last_column r) kept

abbrev pub kept_bulks : ℕ → List Row → List Row → List ℕ
kept_bulks n kept [] = []
kept_bulks n kept (r ∷ rs) =
    let left = lowered_rows n kept (nonzero_row r) in
    lowered_bulks n kept (nonzero_row r) ++ (kept_with_bulks kept left ++ kept_bulks n (kept_with kept left) rs)

-- ---- solutions
-- the entries of the one for column f, before they are divided by the content
abbrev pub solution_bulks : ℕ → List Row → ℕ → Option Row → List ℕ
solution_bulks n kept f (Some q) = []
solution_bulks n kept f None = map unsigned_abs (solution_row n kept f)

-- of those for c columns from f on
abbrev pub solutions_bulks : ℕ → List Row → ℕ → ℕ → List ℕ
solutions_bulks n kept zero f = []
solutions_bulks n kept (suc c) f = solution_bulks n kept f (ending_at f kept) ++ solutions_bulks n kept c (suc f)

unfoldable pub kernel_bulks : ℕ → List Row → List ℕ
kernel_bulks n rows = kept_bulks n [] rows ++ solutions_bulks n (kept_rows n [] rows) n 0

-- ---- works
-- the actions that make these numbers
abbrev pub NumbersMade : List ℕ → Made → Type 0
NumbersMade bulks = Contains (map ANumber bulks)

-- those of the reduced basis of what rows with n columns span
abbrev pub BasisMakes : ℕ → List Row → Made → Type 0
BasisMakes n rows = NumbersMade (basis_bulks n rows)

-- those of the reduced basis of what the rows take to 0
abbrev pub KernelMakes : ℕ → List Row → Made → Type 0
KernelMakes n rows = NumbersMade (kernel_bulks n rows)
