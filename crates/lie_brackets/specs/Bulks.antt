-- What the bracket of two fields makes, with absolute values and plus signs.
use Rattle.std.specs.Prelude.{ℕ, ◌+◌, ◌<◌}
use Rattle.lie_math.specs.Derivation.{derivation}
use Rattle.lie_math.specs.Limits.{absolute}
use Rattle.lie_math.specs.Polynomial.{WholePolynomial, ◌+ᴾ◌}
use Rattle.lie_math.specs.VectorField.{VectorField, component}
use Rattle.lie_geometry.specs.Coordinates.{Space}
use Rattle.lie_systems.specs.Works.{Made, APolynomial}

-- the component at s of the commutator, with absolute values and a plus
abbrev pub bracket_bulk : VectorField → VectorField → ℕ → WholePolynomial
bracket_bulk V W s =
    derivation (λ t. absolute (component V t)) (absolute (component W s))
    +ᴾ derivation (λ t. absolute (component W t)) (absolute (component V s))

-- the action of a bracket makes each component
pub data BracketMakes (S : Space) (V W : VectorField) : Made → Type 0 where
  part : (s : ℕ) → s < S.p + S.q → BracketMakes S V W (APolynomial (bracket_bulk V W s))
