-- A factor that is not 0 can be taken off both sides, and off an equation.
use Rattle.std.specs.Prelude.{◌≡◌, ℕ, [], ◌∷◌, ◌↔◌, ℤ, pos}
use Rattle.std.proofs.Common.{refl, sym, ap, ◌∙◌}
use Rattle.lie_math.specs.Polynomial.{WholePolynomial, constant, 0ᴾ, negᴾ, ◌+ᴾ◌, ◌*ᴾ◌}
use Rattle.lie_math.specs.PolynomialRing.{polynomial_ring}
use Rattle.lie_math.specs.LinearForm.{LinearForm, IsMultipleOf, apply}
use Rattle.lie_math.proofs.LinearForm.{apply_times}
use Rattle.lie_math.proofs.Differences.{difference_zero}
use Rattle.lie_math.proofs.Ring.{times_nil}
use Rattle.lie_math.proofs.RingSolver.{v, c0, ◌⊕◌, ◌⊗◌, ⊖, solve, listed}
use Rattle.lie_math.proofs.Weighing.{torsion}
use Rattle.lie_math.proofs.ZeroDivisors.{no_zero_divisors}

difference : (a p q : WholePolynomial) → a *ᴾ p ≡ a *ᴾ q → a *ᴾ (p +ᴾ negᴾ q) ≡ 0ᴾ
difference a p q e =
    solve polynomial_ring (listed a (a ∷ p ∷ q ∷ [])) (v 0 ⊗ (v 1 ⊕ ⊖ (v 2))) ((v 0 ⊗ v 1) ⊕ ⊖ (v 0 ⊗ v 2)) refl ∙ ap (λ z. z +ᴾ negᴾ (a *ᴾ q)) e
    ∙ solve polynomial_ring (listed a (a ∷ q ∷ [])) ((v 0 ⊗ v 1) ⊕ ⊖ (v 0 ⊗ v 1)) c0 refl

pub factor_cancel : (a p q : WholePolynomial) → ¬ (a ≡ 0ᴾ) → a *ᴾ p ≡ a *ᴾ q → p ≡ q
factor_cancel a p q n e = difference_zero p q (no_zero_divisors a (p +ᴾ negᴾ q) n (difference a p q e))

pub constant_cancel : (n : ℤ) → ¬ (n ≡ pos 0) → (p q : WholePolynomial) → constant n *ᴾ p ≡ constant n *ᴾ q → p ≡ q
constant_cancel n h p q e = difference_zero p q (torsion n h (p +ᴾ negᴾ q) (difference (constant n) p q e))

-- a form and a multiple of it have the same solutions
pub multiple_says : (F : ℕ → WholePolynomial) (E G : LinearForm) → IsMultipleOf E G → apply F E ≡ 0ᴾ ↔ apply F G ≡ 0ᴾ
multiple_says F E G m =
    let says : apply F E ≡ m.factor *ᴾ apply F G = ap (apply F) m.is ∙ apply_times F m.factor G in
    (λ z. no_zero_divisors m.factor (apply F G) m.apart (sym says ∙ z), λ z. says ∙ ap (λ q. m.factor *ᴾ q) z ∙ times_nil polynomial_ring m.factor)
