-- The elimination from the last column to the first, by rows that are kept.
use Rattle.std.specs.Prelude.{◌≡◌, ℕ, zero, suc, ◌==◌, cond, List, [], ◌∷◌, ◌++◌, Option, Some, None, pos}
use Rattle.std.specs.List.{AllByRecursion as Every}
use Rattle.lie_spans.specs.Spans.{EveryTwo}
use Rattle.lie_spans.specs.Rows.{Row, entry, HaveLength}
use Rattle.lie_spans.specs.Content.{row_content, nonzero_row}
use Rattle.lie_spans.specs.Elimination.{cleared_rows}

-- the last column where the row is not 0
abbrev pub last_column : Row → ℕ
last_column [] = 0
last_column (x ∷ xs) = cond (row_content xs == 0) 0 (suc (last_column xs))

-- each row is 0 where the other ends
pub record Clear (q s : Row) : Type 0 where
  pub left : entry q (last_column s) ≡ pos 0
  pub right : entry s (last_column q) ≡ pos 0

-- rows of length n that are not zero, each 0 where the others end
pub record AreKept (n : ℕ) (kept : List Row) : Type 0 where
  pub lengths : HaveLength n kept
  pub counts : Every (λ r. ¬ (entry r (last_column r) ≡ pos 0)) kept
  pub clear : EveryTwo Clear kept

-- the kept row whose last column is k
abbrev pub ending_at : ℕ → List Row → Option Row
ending_at k [] = None
ending_at k (q ∷ qs) = cond (last_column q == k) (Some q) (ending_at k qs)

-- rows after column k: the kept row that ends there clears it
abbrev pub lowered_in : ℕ → List Row → Option Row → List Row
lowered_in k rs None = rs
lowered_in k rs (Some q) = cleared_rows q k rs

-- the rows reduced by the kept ones, columns from the one below k to the first
abbrev pub lowered_rows : ℕ → List Row → List Row → List Row
lowered_rows zero kept rs = rs
lowered_rows (suc k) kept rs = lowered_rows k kept (lowered_in k rs (ending_at k kept))

-- a row that is left over is kept, and those before it are reduced by it
abbrev pub kept_with : List Row → List Row → List Row
kept_with kept [] = kept
kept_with kept (r ∷ rs) = cleared_rows r (last_column r) kept ++ r ∷ []

-- each row in turn
abbrev pub kept_rows : ℕ → List Row → List Row → List Row
kept_rows n kept [] = kept
kept_rows n kept (r ∷ rs) = kept_rows n (kept_with kept (lowered_rows n kept (nonzero_row r))) rs
