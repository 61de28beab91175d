-- Products by powers, one factor at a time.
use Rattle.std.specs.Prelude.{◌≡◌, ℕ, suc, ◌+◌, ◌-◌, ◌<◌, [], ◌∷◌, ℤ, pos, unsigned_abs}
use Rattle.std.proofs.Common.{sym, ap, ap₂, subst, ◌∙◌, arith}
use Rattle.lie_math.specs.FiniteSumLaws.{ext, value-none}
use Rattle.lie_math.specs.Limits.{absolute, absolutes}
use Rattle.lie_math.specs.Monomial.{Monomial}
use Rattle.lie_math.specs.Polynomial.{WholePolynomial, coefficient, terms, term, polynomial_of, constant, 0ᴾ, ◌*ᴾ◌}
use Rattle.lie_math.specs.PolynomialRing.{*ᴾ_comm, *ᴾ_assoc, one-*ᴾ, polynomial_algebra}
use Rattle.lie_math.proofs.Evaluation.{to_power-plus}
use Rattle.lie_math.proofs.Integer.{unsigned_abs_zero}
use Rattle.lie_math.proofs.Limits.{IsNonNegative, term_is, nonneg_absolutes}
use Rattle.lie_ring.specs.Causes.{IsCause}
use Rattle.lie_ring.specs.declared.failures.PolyFail.{PolyFail}
use Rattle.lie_poly.proofs.SumSteps.{cause_covered}
use Rattle.lie_jet.proofs.BoundedPolynomials.{absolute-nonneg}
use Rattle.lie_reduce.specs.ReducedTerms.{power}
use Rattle.lie_reduce.proofs.Products.{IsProper, bounded_times, bounded_power, nonneg_times, proper_power, cause_times}
use Rattle.lie_jet.proofs.PolynomialBounds.{coefficient_absolute, IsBound, absolute_bound, covered_absolute}

pub times_one : (p : WholePolynomial) → p *ᴾ constant (pos 1) ≡ p
times_one p = *ᴾ_comm p (constant (pos 1)) ∙ one-*ᴾ p

pub absolute_plain : (p : WholePolynomial) → IsNonNegative (absolute p)
absolute_plain p = (absolute_bound p).plain

pub absolute_proper : (p : WholePolynomial) → ¬ (p ≡ 0ᴾ) → IsProper (absolute p)
absolute_proper p n = record {
  plain = absolute_plain p;
  apart = λ e. n (ext terms p 0ᴾ (λ m. unsigned_abs_zero (coefficient p m) (zero_of (unsigned_abs (coefficient p m)) (sym (coefficient_absolute p m) ∙ ap (λ q. coefficient q m) e ∙ value-none terms m)) ∙ sym (value-none terms m)));
}
  where
    zero_of : (n : ℕ) → pos n ≡ pos 0 → n ≡ 0
    zero_of n e = ap unsigned_abs e

-- the absolute values of a product are bounded
pub bounded_product : (p b q d : WholePolynomial) → IsBound p b → IsBound q d → IsBound (absolute p *ᴾ absolute q) (b *ᴾ d)
bounded_product p b q d h k = bounded_times (absolute p) (absolute q) b d (covered_absolute p b h) (covered_absolute q d k)

-- ---- one more factor
pub power_more : (p now next base : WholePolynomial) (i : ℕ) → next ≡ now *ᴾ base → now ≡ p *ᴾ power base i → next ≡ p *ᴾ power base (i + 1)
power_more p now next base i e h = e ∙ ap (λ x. x *ᴾ base) h ∙ *ᴾ_assoc p (power base i) base ∙ ap (λ x. p *ᴾ x) (*ᴾ_comm (power base i) base) ∙ ap (λ n. p *ᴾ power base n) (add-one i)
  where
    add-one : (i : ℕ) → suc i ≡ i + 1
    add-one i = omega arith

pub power_cause : (fail : PolyFail) (p now base : WholePolynomial) (i n : ℕ) → ¬ (base ≡ 0ᴾ) → now ≡ p *ᴾ power base i → i < n → IsCause fail (absolute now *ᴾ absolute base) → IsCause fail (absolute p *ᴾ power (absolute base) n)
power_cause fail p now base i n apart h lt c =
    let b : WholePolynomial = absolute base in
    let P : WholePolynomial = absolute p *ᴾ power b i in
    let rest : ℕ = n - suc i in
    let bounded : IsBound now P = subst (λ x. IsBound x P) (sym h) (bounded_times p (power base i) (absolute p) (power b i) (absolute_bound p) (bounded_power base b (absolute_bound base) i)) in
    subst (IsCause fail) (shape (absolute p) b i rest ∙ ap (λ k. absolute p *ᴾ power b k) (whole i n lt))
    (cause_times fail (P *ᴾ b) (power b rest) (nonneg_times P b (bounded.plain) (absolute_plain base)) (proper_power b (absolute_proper base apart) rest)
    (cause_covered fail (absolute now *ᴾ b) (P *ᴾ b) ((bounded_product now P base b bounded (absolute_bound base)).covered) c))
  where
    whole : (i n : ℕ) → i < n → suc i + (n - suc i) ≡ n
    whole i n lt = omega arith

    shape : (p b : WholePolynomial) (i r : ℕ) → ((p *ᴾ power b i) *ᴾ b) *ᴾ power b r ≡ p *ᴾ power b (suc i + r)
    shape p b i r =
        ap (λ x. x *ᴾ power b r) (*ᴾ_assoc p (power b i) b ∙ ap (λ x. p *ᴾ x) (*ᴾ_comm (power b i) b)) ∙ *ᴾ_assoc p (power b (suc i)) (power b r)
        ∙ ap (λ x. p *ᴾ x) (sym (to_power-plus polynomial_algebra b (suc i) r))

-- ---- a power of a variable
pub one_term : (m k : Monomial) (z c : ℤ) → m ≡ k → z ≡ c → polynomial_of ((m, z) ∷ []) ≡ term k c
one_term m k z c e f = ap₂ (λ (n : Monomial) (y : ℤ). polynomial_of ((n, y) ∷ [])) e f ∙ sym (term_is k c)

pub variable_cause : (fail : PolyFail) (p : WholePolynomial) (m : Monomial) (z : ℤ) (t : WholePolynomial) → ¬ (p ≡ 0ᴾ) → z ≡ pos 1 → t ≡ term m (pos 1) → IsCause fail (polynomial_of (absolutes ((m, z) ∷ []))) → IsCause fail (absolute p *ᴾ t)
variable_cause fail p m z t n u e c =
    subst (IsCause fail) (*ᴾ_comm t (absolute p))
    (cause_times fail t (absolute p) (subst IsNonNegative (sym e) (plain m)) (absolute_proper p n) (subst (IsCause fail) (ap (λ y. polynomial_of (absolutes ((m, y) ∷ []))) u ∙ sym (term_is m (pos 1)) ∙ sym e) c))
  where
    plain : (m : Monomial) → IsNonNegative (term m (pos 1))
    plain m = subst IsNonNegative (sym (term_is m (pos 1))) (nonneg_absolutes ((m, pos 1) ∷ []))

pub one_absolute : (m : Monomial) (t : WholePolynomial) → t ≡ term m (pos 1) → absolute t ≡ t
one_absolute m t e = absolute-nonneg t (subst IsNonNegative (sym (e ∙ term_is m (pos 1))) (nonneg_absolutes ((m, pos 1) ∷ [])))
