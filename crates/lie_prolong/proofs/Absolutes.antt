-- The field with the absolute values of its coefficients.
use Rattle.std.specs.Prelude.{◌≡◌, ℕ, zero, suc, List, [], ◌∷◌, map, All}
use Rattle.std.proofs.Common.{refl, sym, ap₂, subst, ◌∙◌, arith, get_or}
use Rattle.std.proofs.lemmas.List.{length-map}
use Rattle.lie_math.specs.Codes.{same_vector_field}
use Rattle.lie_math.specs.Limits.{absolute}
use Rattle.lie_math.specs.Polynomial.{WholePolynomial, 0ᴾ}
use Rattle.lie_math.specs.VectorField.{VectorField, component}
use Rattle.lie_math.proofs.Variables.{in-0ᴾ}
use Rattle.lie_geometry.specs.Coordinates.{Space}
use Rattle.lie_geometry.specs.Invariance.{IsFieldOn}
use Rattle.lie_geometry.specs.Prolongation.{InZ, is_in_z}
use Rattle.lie_jet.proofs.BoundedPolynomials.{absolute_in}
use Rattle.lie_jet.proofs.PolynomialBounds.{absolute_none}
use Rattle.lie_prolong.specs.Bulks.{absolute_field}

pub absolute_field_is : (V W : VectorField) → W.denominator ≡ V.denominator → W.parts ≡ map absolute V.parts → W ≡ absolute_field V
absolute_field_is V W e f = same_vector_field W (absolute_field V) (ap₂ (λ d ps. (d, ps)) e f)

pub component-absolute : (V : VectorField) (s : ℕ) → component (absolute_field V) s ≡ absolute (component V s)
component-absolute V s = go V.parts s
  where
    go : (ps : List WholePolynomial) (s : ℕ) → get_or (map absolute ps) s 0ᴾ ≡ absolute (get_or ps s 0ᴾ)
    go [] s = sym absolute_none
    go (p ∷ ps) zero = refl
    go (p ∷ ps) (suc s) = go ps s

pub component_in_z : (S : Space) (V : VectorField) → IsFieldOn S V → (s : ℕ) → InZ S (component V s)
component_in_z S V h s = go V.parts s h.in_z
  where
    go : (ps : List WholePolynomial) (s : ℕ) → All (InZ S) ps → InZ S (get_or ps s 0ᴾ)
    go [] s k = in-0ᴾ (is_in_z S)
    go (p ∷ ps) zero k = k 0 0ᴾ (omega arith)
    go (p ∷ ps) (suc s) k = go ps s (λ i d l. k (suc i) d (omega arith))

pub absolute_on : (S : Space) (V W : VectorField) → W ≡ absolute_field V → IsFieldOn S V → IsFieldOn S W
absolute_on S V W e h = subst (IsFieldOn S) (sym e) (record { positive = h.positive; size = length-map V.parts absolute ∙ h.size; in_z = all V.parts h.in_z })
  where
    all : (ps : List WholePolynomial) → All (InZ S) ps → All (InZ S) (map absolute ps)
    all [] h k d l = absurd (omega arith)
    all (p ∷ ps) h zero d l = absolute_in (is_in_z S) p (h 0 p (omega arith))
    all (p ∷ ps) h (suc k) d l = all ps (λ i d l. h (suc i) d (omega arith)) k d (omega arith)
