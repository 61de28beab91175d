-- Maps of polynomials that are told term by term.
use Rattle.std.specs.Prelude.{◌≡◌, ℕ, Bool, true, false, cond, ℤ, pos, ◌*ℤ◌}
use Rattle.std.proofs.Common.{refl, sym, ap, ap₂, subst, ◌∙◌}
use mathlib.Core.Path.{fun_ext}
use Rattle.lie_math.specs.Evaluation.{value_in}
use Rattle.lie_math.specs.PolynomialRing.{*ᴾ-dist, *ᴾ_assoc, +ᴾ-*ᴾ, AdditiveOnTerms, polynomial_algebra, polynomial_ring, times_right}
use Rattle.lie_math.specs.FiniteSumLaws.{sum-none, sum-plus, sum-term}
use Rattle.lie_math.specs.Polynomial.{polynomials, 0ᴾ, WholePolynomial, constant, over_terms, term, terms, variable, ◌*ᴾ◌, ◌+ᴾ◌}
use Rattle.lie_math.specs.Monomial.{Monomial, single, unit, ◌·◌}
use Rattle.lie_math.proofs.Evaluation.{generated, value_in-constant, value_in-plus, value_in-times, value_in-variable}
use Rattle.lie_math.proofs.Ring.{nil_times, times_nil}
use Rattle.lie_math.specs.Variables.{IsIn}
use Rattle.lie_math.proofs.Kept.{keep}
use Rattle.lie_math.proofs.Variables.{in_kept}
use Rattle.lie_math.specs.Canonical.{sum_of_entries-map}

-- additive
pub record IsAdditive (L : WholePolynomial → WholePolynomial) : Type 0 where
  pub none : L 0ᴾ ≡ 0ᴾ
  pub plus : (p q : WholePolynomial) → L (p +ᴾ q) ≡ L p +ᴾ L q

module _ (φ : Monomial → ℤ → WholePolynomial) (add : AdditiveOnTerms φ) where
  pub over_terms_additive : IsAdditive (over_terms φ)
  over_terms_additive = record { none = sum-none terms polynomials φ add; plus = sum-plus terms polynomials φ add }

  pub over_terms-term : (m : Monomial) (a : ℤ) → over_terms φ (term m a) ≡ φ m a
  over_terms-term m a = sum-term terms polynomials φ add m a

  pub over_terms-inside : (ψ : Monomial → ℤ → WholePolynomial) (p : WholePolynomial) → over_terms φ (over_terms ψ p) ≡ over_terms (λ m a. over_terms φ (ψ m a)) p
  over_terms-inside ψ p = sum_of_entries-map polynomials polynomials (over_terms φ) (sum-none terms polynomials φ add) (sum-plus terms polynomials φ add) ψ p.list

  pub over_terms-times : (n : Monomial) (b : ℤ) → ((m : Monomial) (a : ℤ) → φ (m · n) (a *ℤ b) ≡ φ m a *ᴾ term n b) → (p : WholePolynomial) → over_terms φ (p *ᴾ term n b) ≡ over_terms φ p *ᴾ term n b
  unfolding ◌*ᴾ◌
  over_terms-times n b is p =
      over_terms-inside (λ m a. over_terms (λ k c. term (m · k) (a *ℤ c)) (term n b)) p
      ∙ ap (λ ψ. over_terms ψ p) (fun_ext (λ m. fun_ext (λ a. ap (over_terms φ) (sum-term terms polynomials _ (times_right m a) n b) ∙ over_terms-term (m · n) (a *ℤ b) ∙ is m a)))
      ∙ sym (sum_of_entries-map polynomials polynomials (λ x. x *ᴾ term n b) (nil_times polynomial_ring (term n b)) (λ x y. +ᴾ-*ᴾ x y (term n b)) φ p.list)

  module _ (S : ℕ → Bool) (number : (c : ℤ) (m : Monomial) (a : ℤ) → φ (m · unit) (a *ℤ c) ≡ φ m a *ᴾ constant c) (on_variable : (w : ℕ) → S w ≡ true → (m : Monomial) (a : ℤ) → φ (m · single w) (a *ℤ pos 1) ≡ φ m a *ᴾ variable w) where
    kept : (f p : WholePolynomial) → over_terms φ (p *ᴾ value_in polynomial_algebra (keep S) f) ≡ over_terms φ p *ᴾ value_in polynomial_algebra (keep S) f
    kept = generated (λ f. (p : WholePolynomial) → over_terms φ (p *ᴾ K f) ≡ over_terms φ p *ᴾ K f)
        (λ c p. subst (λ k. over_terms φ (p *ᴾ k) ≡ over_terms φ p *ᴾ k) (sym (value_in-constant polynomial_algebra (keep S) c)) (over_terms-times unit c (number c) p))
        (λ w p. subst (λ k. over_terms φ (p *ᴾ k) ≡ over_terms φ p *ᴾ k) (sym (value_in-variable polynomial_algebra (keep S) w)) (at_var w p (S w) refl))
        (λ f g h k p. subst (λ z. over_terms φ (p *ᴾ z) ≡ over_terms φ p *ᴾ z) (sym (value_in-plus polynomial_algebra (keep S) f g))
        (ap (over_terms φ) (*ᴾ-dist p (K f) (K g)) ∙ over_terms_additive.plus (p *ᴾ K f) (p *ᴾ K g) ∙ ap₂ ◌+ᴾ◌ (h p) (k p) ∙ sym (*ᴾ-dist (over_terms φ p) (K f) (K g))))
        (λ f g h k p. subst (λ z. over_terms φ (p *ᴾ z) ≡ over_terms φ p *ᴾ z) (sym (value_in-times polynomial_algebra (keep S) f g))
        (ap (over_terms φ) (sym (*ᴾ_assoc p (K f) (K g))) ∙ k (p *ᴾ K f) ∙ ap (λ z. z *ᴾ K g) (h p) ∙ *ᴾ_assoc (over_terms φ p) (K f) (K g)))
      where
        K : WholePolynomial → WholePolynomial
        K f = value_in polynomial_algebra (keep S) f

        at_var : (w : ℕ) (p : WholePolynomial) (t : Bool) → S w ≡ t → over_terms φ (p *ᴾ cond t (variable w) 0ᴾ) ≡ over_terms φ p *ᴾ cond t (variable w) 0ᴾ
        at_var w p true e = over_terms-times (single w) (pos 1) (on_variable w e) p
        at_var w p false e = ap (over_terms φ) (times_nil polynomial_ring p) ∙ over_terms_additive.none ∙ sym (times_nil polynomial_ring (over_terms φ p))

    -- a factor of those variables can be taken out
    pub over_terms-out : (p f : WholePolynomial) → IsIn S f → over_terms φ (p *ᴾ f) ≡ over_terms φ p *ᴾ f
    over_terms-out p f h = subst (λ k. over_terms φ (p *ᴾ k) ≡ over_terms φ p *ᴾ k) (in_kept S f h) (kept f p)
