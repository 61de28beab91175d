-- Sums of polynomials over lists of numbers.
use Rattle.std.specs.Prelude.{◌≡◌, ℕ, List, [], ◌∷◌}
use Rattle.std.proofs.Common.{refl, sym, ap, ap₂, ◌∙◌}
use mathlib.Core.Path.{fun_ext}
use Rattle.lie_math.specs.Polynomial.{polynomials, 0ᴾ, WholePolynomial, terms, ◌*ᴾ◌, ◌+ᴾ◌}
use Rattle.lie_math.specs.PolynomialRing.{*ᴾ-dist, *ᴾ_assoc, *ᴾ_comm, +ᴾ-*ᴾ, polynomial_ring}
use Rattle.lie_math.proofs.Ring.{nil_times, plus_cancel, plus_idr, times_left_comm, times_nil}
use Rattle.lie_math.specs.FiniteSumLaws.{plus_idl}
use Rattle.lie_math.specs.Canonical.{middle}
use Rattle.lie_math.specs.Derivation.{IsDerivation, sum_of}

pub sum_of-plus : (is : List ℕ) (f g : ℕ → WholePolynomial) → sum_of is (λ i. f i +ᴾ g i) ≡ sum_of is f +ᴾ sum_of is g
sum_of-plus [] f g = sym (plus_idl terms 0ᴾ)
sum_of-plus (i ∷ is) f g = ap (λ x. (f i +ᴾ g i) +ᴾ x) (sum_of-plus is f g) ∙ middle polynomials (f i) (g i) (sum_of is f) (sum_of is g)

pub sum_of-times : (is : List ℕ) (f : ℕ → WholePolynomial) (p : WholePolynomial) → sum_of is f *ᴾ p ≡ sum_of is (λ i. f i *ᴾ p)
sum_of-times [] f p = nil_times polynomial_ring p
sum_of-times (i ∷ is) f p = +ᴾ-*ᴾ (f i) (sum_of is f) p ∙ ap (λ x. f i *ᴾ p +ᴾ x) (sum_of-times is f p)

pub times-sum_of : (is : List ℕ) (f : ℕ → WholePolynomial) (p : WholePolynomial) → p *ᴾ sum_of is f ≡ sum_of is (λ i. p *ᴾ f i)
times-sum_of is f p = *ᴾ_comm p (sum_of is f) ∙ sum_of-times is f p ∙ ap (sum_of is) (fun_ext (λ i. *ᴾ_comm (f i) p))

pub sum_of-swap : (is js : List ℕ) (f : ℕ → ℕ → WholePolynomial) → sum_of is (λ i. sum_of js (f i)) ≡ sum_of js (λ j. sum_of is (λ i. f i j))
sum_of-swap [] js f = sym (none js)
  where
    none : (js : List ℕ) → sum_of js (λ j. 0ᴾ) ≡ 0ᴾ
    none [] = refl
    none (j ∷ js) = plus_idl terms _ ∙ none js
sum_of-swap (i ∷ is) js f = ap (λ x. sum_of js (f i) +ᴾ x) (sum_of-swap is js f) ∙ sym (sum_of-plus js (f i) (λ j. sum_of is (λ i. f i j)))

pub sum_of-derived : {D : WholePolynomial → WholePolynomial} → IsDerivation D → (is : List ℕ) (f : ℕ → WholePolynomial) → D (sum_of is f) ≡ sum_of is (λ i. D (f i))
sum_of-derived {D} d [] f = plus_cancel polynomial_ring (D 0ᴾ) 0ᴾ (D 0ᴾ) (sym (d.plus 0ᴾ 0ᴾ) ∙ ap D (plus_idl terms 0ᴾ) ∙ sym (plus_idr polynomial_ring (D 0ᴾ)))
sum_of-derived {D} d (i ∷ is) f = d.plus (f i) (sum_of is f) ∙ ap (λ x. D (f i) +ᴾ x) (sum_of-derived d is f)

pub sum_of-0ᴾ : (is : List ℕ) → sum_of is (λ i. 0ᴾ) ≡ 0ᴾ
sum_of-0ᴾ [] = refl
sum_of-0ᴾ (i ∷ is) = plus_idl terms _ ∙ sum_of-0ᴾ is

-- sums of multiples of derivations are derivations
pub multiples_is_derivation : (is : List ℕ) (c : ℕ → WholePolynomial) (D : ℕ → WholePolynomial → WholePolynomial) → ((i : ℕ) → IsDerivation (D i)) → IsDerivation (λ p. sum_of is (λ i. c i *ᴾ D i p))
multiples_is_derivation is c D d = record {
  plus = λ p q. ap (sum_of is) (fun_ext (λ i. ap (λ x. c i *ᴾ x) ((d i).plus p q) ∙ *ᴾ-dist (c i) (D i p) (D i q))) ∙ sum_of-plus is (λ i. c i *ᴾ D i p) (λ i. c i *ᴾ D i q);
  times = λ p q. ap (sum_of is) (fun_ext (λ i. ap (λ x. c i *ᴾ x) ((d i).times p q) ∙ moved (c i) p q (D i p) (D i q))) ∙ sum_of-plus is (λ i. p *ᴾ (c i *ᴾ D i q)) (λ i. (c i *ᴾ D i p) *ᴾ q)
      ∙ ap₂ ◌+ᴾ◌ (sym (times-sum_of is (λ i. c i *ᴾ D i q) p)) (sym (sum_of-times is (λ i. c i *ᴾ D i p) q));
  whole = λ z. ap (sum_of is) (fun_ext (λ i. ap (λ x. c i *ᴾ x) ((d i).whole z) ∙ times_nil polynomial_ring (c i))) ∙ sum_of-0ᴾ is;
}
  where
    moved : (c p q dp dq : WholePolynomial) → c *ᴾ (p *ᴾ dq +ᴾ dp *ᴾ q) ≡ p *ᴾ (c *ᴾ dq) +ᴾ (c *ᴾ dp) *ᴾ q
    moved c p q dp dq = simp (*ᴾ-dist, *ᴾ_assoc, times_left_comm polynomial_ring)
