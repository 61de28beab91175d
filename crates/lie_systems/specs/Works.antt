-- Works: what each of their actions makes, and which works are within the limits or past one of them.
use Rattle.std.specs.Prelude.{ℕ, ◌<◌, ◌≤◌, ◌⊎◌}
use Rattle.lie_math.specs.Polynomial.{WholePolynomial}
use Rattle.lie_math.specs.LinearForm.{LinearForm}
use Rattle.lie_math.specs.Limits as polynomials
use Rattle.lie_math.specs.Limits.{number_limit, greatest_term_count, IsWithinLimits}
use Rattle.lie_systems.specs.Bulk as forms
use Rattle.lie_systems.specs.Bulk.{IsFormWithinLimits}

abbrev pub greatest_unknown : ℕ
greatest_unknown = 65535

abbrev pub greatest_basis_unknown_count : ℕ
greatest_basis_unknown_count = 256

abbrev pub greatest_column_count : ℕ
greatest_column_count = 1000

-- the kinds of limits
pub data Limit : Type 0 where
  OnCoefficients : Limit
  OnExponents : Limit
  OnTerms : Limit
  OnOrders : Limit
  OnUnknowns : Limit
  OnWidth : Limit

-- what one action makes, with absolute values: a polynomial, a form, a number, a system of so many triples, an unknown with a number, or
-- a basis of so many unknowns and columns
pub data Made : Type 0 where
  APolynomial : WholePolynomial → Made
  AForm : LinearForm → Made
  ANumber : ℕ → Made
  Triples : ℕ → Made
  AnUnknown : ℕ → Made
  ABasis : ℕ → ℕ → Made

abbrev pub IsMadeWithin : Made → Type 0
IsMadeWithin (APolynomial p) = IsWithinLimits p
IsMadeWithin (AForm E) = IsFormWithinLimits E
IsMadeWithin (ANumber n) = n < number_limit
IsMadeWithin (Triples n) = n ≤ greatest_term_count
IsMadeWithin (AnUnknown n) = n ≤ greatest_unknown
IsMadeWithin (ABasis unknowns columns) = (unknowns ≤ greatest_basis_unknown_count) × (columns ≤ greatest_column_count)

abbrev pub IsMadePast : Limit → Made → Type 0
IsMadePast OnCoefficients (APolynomial p) = polynomials.HasWideCoefficient p
IsMadePast OnCoefficients (AForm E) = forms.HasWideNumber E
IsMadePast OnCoefficients (ANumber n) = number_limit ≤ n
IsMadePast OnExponents (APolynomial p) = polynomials.HasHighExponent p
IsMadePast OnExponents (AForm E) = forms.HasHighExponent E
IsMadePast OnTerms (APolynomial p) = polynomials.HasManyTerms p
IsMadePast OnTerms (AForm E) = forms.HasManyTriples E
IsMadePast OnTerms (Triples n) = greatest_term_count < n
IsMadePast OnOrders (AForm E) = forms.HasHighOrder E
IsMadePast OnUnknowns (AnUnknown n) = greatest_unknown < n
IsMadePast OnWidth (ABasis unknowns columns) = (greatest_basis_unknown_count < unknowns) ⊎ (greatest_column_count < columns)
IsMadePast limit made = ⊥

-- a work is told by what its actions make: each is within the limits, or one is past the limit
abbrev pub IsWorkWithin : (Made → Type 0) → Type 0
IsWorkWithin makes = (b : Made) → makes b → IsMadeWithin b

abbrev pub IsWorkPast : (Made → Type 0) → Limit → Type 0
IsWorkPast makes limit = (b : Made) × makes b × IsMadePast limit b

-- of works done one after the other, this one is the first that is past a limit, and it is past this one
pub record IsFirstPast (makes : ℕ → Made → Type 0) (step : ℕ) (limit : Limit) : Type 0 where
  pub before : (k : ℕ) → k < step → IsWorkWithin (makes k)
  pub past : IsWorkPast (makes step) limit
