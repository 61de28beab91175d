-- Rational polynomials: a whole polynomial over a number of at least 1.
use Rattle.std.specs.Prelude.{◌≡◌, ℕ, pos}
use Rattle.lie_math.specs.Polynomial.{WholePolynomial, constant, ◌*ᴾ◌}

pub record RationalPolynomial : Type 0 where
  pub over : ℕ
  pub whole : WholePolynomial

-- the cross multiples are equal
abbrev pub IsSameRational : RationalPolynomial → RationalPolynomial → Type 0
IsSameRational r s = constant (pos s.over) *ᴾ r.whole ≡ constant (pos r.over) *ᴾ s.whole
