-- Lists of rows as the program keeps them.
use Rattle.std.specs.Prelude.{◌≡◌, ℕ, zero, suc, ℤ, pos, List, [], ◌∷◌, Vec, map}
use Rattle.std.specs.List.{AllByRecursion as Every}
use Rattle.std.specs.declared.alloc.Global.{Global}
use Rattle.lie_spans.specs.KeptRows.{last_column}
use Rattle.lie_spans.specs.Rows.{Row, entry, HaveLength}

-- the rows in the vectors
abbrev pub rows_of : List (Vec ℤ Global) → List Row
rows_of [] = []
rows_of (x ∷ xs) = x.items ∷ rows_of xs

-- the row at a place, empty past the end
abbrev pub row_at : List (Vec ℤ Global) → ℕ → Row
row_at [] i = []
row_at (x ∷ xs) zero = x.items
row_at (x ∷ xs) (suc i) = row_at xs i

-- the last columns of the rows
abbrev pub AreEnds : List Row → List ℕ → Type 0
AreEnds rs ends = map last_column rs ≡ ends

-- rows that are left over: each has n entries, is not zero, and is 0 where the kept rows end
pub record AreLeftOver (n : ℕ) (kept left : List Row) : Type 0 where
  pub lengths : HaveLength n left
  pub counts : Every (λ r. ¬ (entry r (last_column r) ≡ pos 0)) left
  pub apart : Every (λ r. Every (λ q. entry r (last_column q) ≡ pos 0) kept) left
