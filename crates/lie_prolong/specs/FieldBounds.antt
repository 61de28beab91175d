-- When a field's own numbers show that no prolonged coefficient is past a limit.
use Rattle.std.specs.Prelude.{ℕ, suc, ◌≤◌, max, List, [], ◌∷◌}
use Rattle.lie_math.specs.Limits.{greatest_exponent, greatest_term_count}
use Rattle.lie_math.specs.Polynomial.{WholePolynomial}
use Rattle.lie_math.specs.Powers.{total_degree}
use Rattle.lie_math.specs.VectorField.{VectorField}
use Rattle.lie_geometry.specs.Coordinates.{Space}
use Rattle.lie_geometry.specs.FieldNorms.{field_norm_bound}
use Rattle.lie_geometry.specs.Norms.{norm}

-- the greatest number that f tells of a polynomial
abbrev pub greatest_of : (WholePolynomial → ℕ) → List WholePolynomial → ℕ
greatest_of f [] = 0
greatest_of f (P ∷ Ps) = max (f P) (greatest_of f Ps)

-- where the norms of the parts are at most M and their degrees at most D, the bounds of the norms and of the degrees of the prolonged
-- coefficients up to order n are within the limits
pub record AreLowBounds (S : Space) (n M D : ℕ) : Type 0 where
  pub norms : field_norm_bound S M D n ≤ greatest_term_count
  pub degrees : suc D ≤ greatest_exponent

-- the bounds by the field's greatest norm and greatest degree are within the limits
abbrev pub IsBoundedField : Space → ℕ → VectorField → Type 0
IsBoundedField S n V = AreLowBounds S n (greatest_of norm V.parts) (greatest_of total_degree V.parts)
