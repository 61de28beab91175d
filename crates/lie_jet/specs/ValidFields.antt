-- Valid fields: on the space, and in lowest terms.
use Rattle.std.specs.Prelude.{◌≡◌, ℕ, unsigned_abs}
use Rattle.std.specs.Int.{◌∣◌}
use Rattle.std.specs.List.{AllByRecursion}
use Rattle.lie_math.specs.Polynomial.{WholePolynomial}
use Rattle.lie_math.specs.VectorField.{VectorField}
use Rattle.lie_geometry.specs.Coordinates.{Space}
use Rattle.lie_geometry.specs.Invariance.{IsFieldOn}

-- k divides the number of each term
abbrev pub DividesTerms : ℕ → WholePolynomial → Type 0
DividesTerms k p = AllByRecursion (λ t. k ∣ unsigned_abs t.1) p.list

-- k divides the denominator and each coefficient of the parts
pub record DividesField (k : ℕ) (V : VectorField) : Type 0 where
  pub denominator : k ∣ V.denominator
  pub coefficients : AllByRecursion (DividesTerms k) V.parts

-- a part for each of the variables z, in these variables alone, over a number of at least 1, and no number above 1 divides the field
pub record IsValidField (S : Space) (V : VectorField) : Type 0 where
  pub on_space : IsFieldOn S V
  pub lowest : (k : ℕ) → DividesField k V → k ≡ 1
