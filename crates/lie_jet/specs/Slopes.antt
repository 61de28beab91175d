-- What a variable becomes when it is derived.
use Rattle.std.specs.Prelude.{◌≡◌, pos, Option, Some, None}
use Rattle.lie_math.specs.Monomial.{Monomial}
use Rattle.lie_math.specs.Polynomial.{WholePolynomial, 0ᴾ, term}

-- none is 0, and a monomial is itself
abbrev pub IsSlope : Option Monomial → WholePolynomial → Type 0
IsSlope None p = 0ᴾ ≡ p
IsSlope (Some m) p = term m (pos 1) ≡ p
