-- A derivation applied to an equation, with the absolute values of both.
use Rattle.std.specs.Prelude.{◌≡◌, ℕ, List, [], ◌∷◌, ℤ, pos, unsigned_abs}
use Rattle.std.proofs.Common.{refl, ap, ap₂, ◌∙◌}
use Rattle.lie_math.specs.Limits.{absolute}
use Rattle.lie_math.specs.Monomial.{exponent}
use Rattle.lie_math.specs.Polynomial.{WholePolynomial, coefficient}
use Rattle.lie_math.specs.Variables.{FreeOf}
use Rattle.lie_jet.proofs.PolynomialBounds.{coefficient_absolute}
use Rattle.lie_jet.proofs.Absolutes.{absolute_twice}
use Rattle.lie_reduce.specs.Applications.{sides, applied_to, absolute_coefficients}

pub free_size : (w l : ℕ) (R q : WholePolynomial) → q ≡ absolute R → w ≡ l → FreeOf l R → FreeOf w q
free_size w l R q e f h = λ m n. ap (exponent m) f ∙ h m (λ z. n (ap (λ p. coefficient p m) e ∙ coefficient_absolute R m ∙ ap (λ c. pos (unsigned_abs c)) z))

sizes-sizes : (cs : List (ℕ × WholePolynomial)) → absolute_coefficients (absolute_coefficients cs) ≡ absolute_coefficients cs
sizes-sizes [] = refl
sizes-sizes (c ∷ cs) = ap₂ (λ p xs. (c.0, p) ∷ xs) (absolute_twice c.1) (sizes-sizes cs)

pub bulk_same : (cs sl : List (ℕ × WholePolynomial)) (w l : ℕ) (c sc : ℤ) (R sr : WholePolynomial) → sl ≡ absolute_coefficients cs → w ≡ l → sc ≡ pos (unsigned_abs c) → sr ≡ absolute R
    → applied_to (absolute_coefficients sl) (sides w (pos (unsigned_abs sc)) (pos 1) (absolute sr)) ≡ applied_to (absolute_coefficients cs) (sides l (pos (unsigned_abs c)) (pos 1) (absolute R))
bulk_same cs sl w l c sc R sr e f g h =
    ap₂ applied_to (ap absolute_coefficients e ∙ sizes-sizes cs) (ap (λ v. sides v (pos (unsigned_abs sc)) (pos 1) (absolute sr)) f ∙ ap₂ (λ z p. sides l (pos (unsigned_abs z)) (pos 1) (absolute p)) g h ∙ ap (λ p. sides l (pos (unsigned_abs c)) (pos 1) p) (absolute_twice R))
