-- Identities of sums, differences and multiples of polynomials.
use Rattle.std.specs.Prelude.{◌≡◌, [], ◌∷◌}
use Rattle.std.proofs.Common.{refl, sym, ◌∙◌}
use Rattle.lie_math.specs.FiniteSumLaws.{plus_comm}
use Rattle.lie_math.specs.Polynomial.{WholePolynomial, terms, 0ᴾ, negᴾ, ◌+ᴾ◌, ◌*ᴾ◌}
use Rattle.lie_math.specs.PolynomialRing.{polynomial_ring}
use Rattle.lie_math.proofs.Ring.{plus_cancel}
use Rattle.lie_math.proofs.RingSolver.{v, c0, ◌⊕◌, ◌⊗◌, ⊖, solve, listed}

pub difference_zero : (p q : WholePolynomial) → p +ᴾ negᴾ q ≡ 0ᴾ → p ≡ q
difference_zero p q h = plus_cancel polynomial_ring p q (negᴾ q) (plus_comm terms (negᴾ q) p ∙ h ∙ sym (polynomial_ring.neg_l q))

pub less_nothing : (p : WholePolynomial) → p +ᴾ negᴾ 0ᴾ ≡ p
less_nothing p = solve polynomial_ring (listed p (p ∷ [])) (v 0 ⊕ ⊖ c0) (v 0) refl

pub negative_twice : (p : WholePolynomial) → negᴾ (negᴾ p) ≡ p
negative_twice p = solve polynomial_ring (listed p (p ∷ [])) (⊖ (⊖ (v 0))) (v 0) refl

pub less_difference : (p q : WholePolynomial) → p +ᴾ negᴾ (p +ᴾ negᴾ q) ≡ q
less_difference p q = solve polynomial_ring (listed p (p ∷ q ∷ [])) (v 0 ⊕ ⊖ (v 0 ⊕ ⊖ (v 1))) (v 1) refl

pub sum_of_differences : (a x b y : WholePolynomial) → (a +ᴾ negᴾ x) +ᴾ (b +ᴾ negᴾ y) ≡ (a +ᴾ b) +ᴾ negᴾ (x +ᴾ y)
sum_of_differences a x b y = solve polynomial_ring (listed a (a ∷ x ∷ b ∷ y ∷ [])) ((v 0 ⊕ ⊖ (v 1)) ⊕ (v 2 ⊕ ⊖ (v 3))) ((v 0 ⊕ v 2) ⊕ ⊖ (v 1 ⊕ v 3)) refl

pub difference_of_products : (a x b y : WholePolynomial) → a *ᴾ (b +ᴾ negᴾ y) +ᴾ y *ᴾ (a +ᴾ negᴾ x) ≡ a *ᴾ b +ᴾ negᴾ (x *ᴾ y)
difference_of_products a x b y = solve polynomial_ring (listed a (a ∷ x ∷ b ∷ y ∷ [])) ((v 0 ⊗ (v 2 ⊕ ⊖ (v 3))) ⊕ (v 3 ⊗ (v 0 ⊕ ⊖ (v 1)))) ((v 0 ⊗ v 2) ⊕ ⊖ (v 1 ⊗ v 3)) refl

pub sum_of_multiples : (a b p q : WholePolynomial) → b *ᴾ (a *ᴾ p) +ᴾ a *ᴾ (b *ᴾ q) ≡ (a *ᴾ b) *ᴾ (p +ᴾ q)
sum_of_multiples a b p q = solve polynomial_ring (listed a (a ∷ b ∷ p ∷ q ∷ [])) ((v 1 ⊗ (v 0 ⊗ v 2)) ⊕ (v 0 ⊗ (v 1 ⊗ v 3))) ((v 0 ⊗ v 1) ⊗ (v 2 ⊕ v 3)) refl
