-- Polynomials put into a polynomial: the value of the result is the value at the values, and the variables put in for themselves change nothing.
use Rattle.std.specs.Prelude.{◌≡◌, ℕ}
use Rattle.std.proofs.Common.{sym, ap, ap₂, ◌∙◌}
use Rattle.lie_math.specs.Ring.{Algebra}
use Rattle.lie_math.specs.Polynomial.{WholePolynomial, variable, ◌*ᴾ◌, ◌+ᴾ◌}
use Rattle.lie_math.specs.PolynomialRing.{polynomial_algebra}
use Rattle.lie_math.specs.Evaluation.{value_in}
use Rattle.lie_math.proofs.Evaluation.{generated, value_in-constant, value_in-plus, value_in-times, value_in-variable}

pub value_in-inside : {B : Type 0} (A : Algebra B) (at : ℕ → B) (s : ℕ → WholePolynomial) (p : WholePolynomial) → value_in A at (value_in polynomial_algebra s p) ≡ value_in A (λ w. value_in A at (s w)) p
value_in-inside A at s = generated (λ p. value_in A at (value_in polynomial_algebra s p) ≡ value_in A (λ w. value_in A at (s w)) p)
    (λ c. ap (value_in A at) (value_in-constant polynomial_algebra s c) ∙ value_in-constant A at c ∙ sym (value_in-constant A (λ w. value_in A at (s w)) c))
    (λ w. ap (value_in A at) (value_in-variable polynomial_algebra s w) ∙ sym (value_in-variable A (λ w. value_in A at (s w)) w))
    (λ p q h k. ap (value_in A at) (value_in-plus polynomial_algebra s p q) ∙ value_in-plus A at _ _ ∙ ap₂ A.ring.adder.plus h k ∙ sym (value_in-plus A (λ w. value_in A at (s w)) p q))
    (λ p q h k. ap (value_in A at) (value_in-times polynomial_algebra s p q) ∙ value_in-times A at _ _ ∙ ap₂ A.ring.times h k ∙ sym (value_in-times A (λ w. value_in A at (s w)) p q))

pub value_in_itself : (p : WholePolynomial) → value_in polynomial_algebra variable p ≡ p
value_in_itself = generated (λ p. value_in polynomial_algebra variable p ≡ p) (value_in-constant polynomial_algebra variable) (value_in-variable polynomial_algebra variable)
    (λ p q h k. value_in-plus polynomial_algebra variable p q ∙ ap₂ ◌+ᴾ◌ h k)
    (λ p q h k. value_in-times polynomial_algebra variable p q ∙ ap₂ ◌*ᴾ◌ h k)
