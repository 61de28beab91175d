-- The commutator of two fields. A field acts on functions of z as the derivation with its components.
use Rattle.std.specs.Prelude.{ℕ, ◌+◌, ◌*◌, map}
use Rattle.std.specs.List.{range_with_len}
use Rattle.lie_math.specs.Derivation.{derivation}
use Rattle.lie_math.specs.Polynomial.{WholePolynomial, ◌+ᴾ◌, negᴾ}
use Rattle.lie_math.specs.VectorField.{VectorField, component}
use Rattle.lie_geometry.specs.Coordinates.{Space}

-- its component at s is V(W s) - W(V s)
abbrev pub commutator_component : (ℕ → WholePolynomial) → (ℕ → WholePolynomial) → ℕ → WholePolynomial
commutator_component V W s = derivation V (W s) +ᴾ negᴾ (derivation W (V s))

abbrev pub commutator : Space → VectorField → VectorField → VectorField
commutator S V W = record {
  denominator = V.denominator * W.denominator;
  parts = map (commutator_component (component V) (component W)) (range_with_len 0 (S.p + S.q));
}
