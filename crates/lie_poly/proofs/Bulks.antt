-- The bulk of an operation on polynomials, by their lists of terms.
use Rattle.std.proofs.Common.{◌≡◌, sym, ap, ◌∙◌, List, ℤ}
use Rattle.lie_math.specs.Monomial.{Monomial}
use Rattle.lie_math.specs.Polynomial.{WholePolynomial, polynomial_of, terms}
use Rattle.lie_math.specs.Limits.{absolutes, absolute}
use Rattle.lie_math.specs.FiniteSum.{IsCanonical}
use Rattle.lie_math.proofs.Limits.{absolute_of}
use Rattle.lie_ring.specs.Entries.{entries}

-- the polynomial with the absolute values, of the list that a polynomial is kept as
pub absolute_is : {C : Type 0} (value : C → ℤ) (slice kept : List (Monomial × C)) (p : WholePolynomial) → slice ≡ kept → IsCanonical terms (entries value kept) → polynomial_of (entries value kept) ≡ p → polynomial_of (absolutes (entries value slice)) ≡ absolute p
absolute_is value slice kept p e h q = ap (λ xs. polynomial_of (absolutes (entries value xs))) e ∙ sym (absolute_of (entries value kept) h) ∙ ap absolute q
