-- What a polynomial's list of terms keeps.
use Rattle.std.specs.Prelude.{◌≤◌, T, List, length, ℤ}
use Rattle.lie_math.specs.SortedSum.{is_canonical}
use Rattle.lie_math.specs.Integer.{coefficients}
use Rattle.lie_math.specs.Monomial.{Monomial, monomial_cmp}
use Rattle.lie_poly.specs.Bulk.{AreWithin}

-- the monomials stand in print order, each once, with coefficients that are not 0
abbrev pub IsInPrintOrder : List (Monomial × ℤ) → Type 0
IsInPrintOrder es = T (is_canonical monomial_cmp coefficients es)

-- in print order, and all within the limits
pub record IsSorted (es : List (Monomial × ℤ)) : Type 0 where
  pub ordered : IsInPrintOrder es
  pub within : AreWithin es
  pub few : length es ≤ 1000000
