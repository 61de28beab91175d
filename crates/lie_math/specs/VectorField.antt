-- A vector field with polynomial components: one part for each variable, all over a number of at least 1.
use Rattle.std.specs.Prelude.{ℕ, List, get_or}
use Rattle.lie_math.specs.Polynomial.{WholePolynomial, 0ᴾ}
use Rattle.lie_math.specs.RationalPolynomial.{IsSameRational}

pub record VectorField : Type 0 where
  pub denominator : ℕ
  pub parts : List WholePolynomial

-- the part at the s-th variable, 0 past the end
abbrev pub component : VectorField → ℕ → WholePolynomial
component V s = get_or V.parts s 0ᴾ

-- each component is the same: the part over the denominator
abbrev pub IsSameField : VectorField → VectorField → Type 0
IsSameField V W = (s : ℕ)
    → IsSameRational (record { over = V.denominator; whole = component V s }) (record { over = W.denominator; whole = component W s })
