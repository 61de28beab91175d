-- Rows of whole numbers, and the reduced basis of a set of rows.
use Rattle.std.specs.Prelude.{◌≡◌, ℕ, ◌<◌, ◌↔◌, List, ℤ, pos, get_or, length}
use Rattle.std.specs.List.{AllByRecursion as Every}
use Rattle.lie_spans.specs.Spans.{IsSpanned}
use Rattle.lie_spans.specs.Reduced.{IsReduced}

abbrev pub Row : Type 0
Row = List ℤ

-- the entry in column k, and 0 past the end
abbrev pub entry : Row → ℕ → ℤ
entry r k = get_or r k (pos 0)

-- each row has n entries
abbrev pub HaveLength : ℕ → List Row → Type 0
HaveLength n rs = Every (λ r. length r ≡ n) rs

-- rs is the reduced basis of the rows of length n that are in X
pub record IsReducedBasis (n : ℕ) (X : Row → Type 0) (rs : List Row) : Type 0 where
  pub lengths : HaveLength n rs
  pub reduced : IsReduced entry ◌<◌ rs
  pub spans : (w : Row) → length w ≡ n → X w ↔ IsSpanned entry rs (entry w)
