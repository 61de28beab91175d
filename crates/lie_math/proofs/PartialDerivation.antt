-- The partial derivatives as derivations, and their values at the variables.
use Rattle.std.specs.Prelude.{ℤ, ◌≡◌, ℕ, pos, ◌-◌, Bool, true, false, cond, ◌*ℤ◌}
use Rattle.std.proofs.Common.{refl, sym, ap, ap₂, ◌∙◌, subst, eqb, eqb-true, true≢false}
use Rattle.lie_math.specs.Polynomial.{0ᴾ, WholePolynomial, terms, variable, ◌*ᴾ◌, ◌+ᴾ◌, polynomials, constant, term}
use Rattle.lie_math.specs.Derivation.{IsDerivation}
use Rattle.lie_math.specs.FiniteSumLaws.{plus_comm, plus_idl, term_additive, ext, value-none, value-term}
use Rattle.lie_math.specs.Monomial.{unit, exponent, powers, single}
use Rattle.lie_math.specs.PolynomialRing.{polynomial_ring, *ᴾ-dist, +ᴾ-*ᴾ}
use Rattle.lie_math.proofs.Ring.{plus_idr, nil_times, times_nil}
use Rattle.lie_math.specs.Canonical.{middle}
use Rattle.std.proofs.lemmas.Bool.{eqb-false}
use lib.IntN.{*ℤ-zero}
use Rattle.std.specs.Ordering.{eq_by_cmp, nat_cmp}
use Rattle.std.specs.Cmp.{tied_itself}
use Rattle.lie_math.proofs.PartialDerivative.{partial-*ᴾ, partial-+ᴾ, partial-term}
use Rattle.lie_math.proofs.FiniteSum.{value-put}
use Rattle.lie_math.specs.PartialDerivative.{lower, partial}
use Rattle.lie_math.proofs.FiniteSum as finite_proofs

pub partial_is_derivation : (v : ℕ) → IsDerivation (partial v)
partial_is_derivation v = record {
  plus = partial-+ᴾ v;
  times = λ p q. partial-*ᴾ v p q ∙ plus_comm terms _ _;
  whole = λ c. partial-term v unit c ∙ ap (λ e. term (lower v unit) (c *ℤ pos e)) (value-none powers v) ∙ ap (term (lower v unit)) (*ℤ-zero c) ∙ (term_additive terms).on_nil (lower v unit);
}

pub same_key : (v w : ℕ) → v ≡ w → eq_by_cmp nat_cmp v w ≡ true
same_key v w e = subst (λ z. eq_by_cmp nat_cmp v z ≡ true) e (ap Rattle.std.proofs.Common.is_eq (tied_itself powers.total v))

other_key : (v w : ℕ) → (v ≡ w → ⊥) → eq_by_cmp nat_cmp v w ≡ false
other_key v w n = go (eq_by_cmp nat_cmp v w) refl
  where
    go : (t : Bool) → eq_by_cmp nat_cmp v w ≡ t → t ≡ false
    go true e = absurd (n (finite_proofs.key powers v w e))
    go false e = refl

pub partial-itself : (v : ℕ) → partial v (variable v) ≡ constant (pos 1)
partial-itself v =
    partial-term v (single v) (pos 1) ∙ ap₂ (λ m e. term m (pos 1 *ℤ pos e)) (ext powers (lower v (single v)) unit none) here
  where
    here : exponent (single v) v ≡ 1
    here = value-term powers v 1 v ∙ ap (λ t. cond t 1 0) (same_key v v refl)

    at : (q : ℕ) (t : Bool) → eq_by_cmp nat_cmp q v ≡ t → cond t (exponent (single v) v - 1) (cond t 1 0) ≡ 0
    at q true e = ap (λ n. n - 1) here
    at q false e = refl

    none : (q : ℕ) → exponent (lower v (single v)) q ≡ exponent unit q
    none q = value-put powers v (exponent (single v) v - 1) (single v) q ∙ ap (λ z. cond (eq_by_cmp nat_cmp q v) (exponent (single v) v - 1) z) (value-term powers v 1 q) ∙ at q (eq_by_cmp nat_cmp q v) refl ∙ sym (value-none powers q)

pub partial-other : (v w : ℕ) → (v ≡ w → ⊥) → partial v (variable w) ≡ 0ᴾ
partial-other v w n =
    partial-term v (single w) (pos 1) ∙ ap (λ e. term (lower v (single w)) (pos 1 *ℤ pos e)) (value-term powers w 1 v ∙ ap (λ t. cond t 1 0) (other_key v w n))
    ∙ (term_additive terms).on_nil (lower v (single w))

pub partial-variable : (v w : ℕ) → partial v (variable w) ≡ cond (eqb v w) (constant (pos 1)) 0ᴾ
partial-variable v w = go (eqb v w) refl
  where
    go : (t : Bool) → eqb v w ≡ t → partial v (variable w) ≡ cond t (constant (pos 1)) 0ᴾ
    go true e = ap (λ z. partial v (variable z)) (sym (eqb-true v w e)) ∙ partial-itself v
    go false e = partial-other v w (eqb-false v w e)

pub zero_is_derivation : IsDerivation (λ p. 0ᴾ)
zero_is_derivation = record { plus = λ p q. sym (plus_idl terms 0ᴾ); times = λ p q. sym (ap₂ ◌+ᴾ◌ (times_nil polynomial_ring p) (nil_times polynomial_ring q) ∙ plus_idl terms 0ᴾ); whole = λ c. refl }

pub sum_is_derivation : {D E : WholePolynomial → WholePolynomial} → IsDerivation D → IsDerivation E → IsDerivation (λ p. D p +ᴾ E p)
sum_is_derivation {D} {E} d e = record {
  plus = λ p q. ap₂ ◌+ᴾ◌ (d.plus p q) (e.plus p q) ∙ middle polynomials (D p) (D q) (E p) (E q);
  times = λ p q. ap₂ ◌+ᴾ◌ (d.times p q) (e.times p q) ∙ middle polynomials (p *ᴾ D q) (D p *ᴾ q) (p *ᴾ E q) (E p *ᴾ q) ∙ ap₂ ◌+ᴾ◌ (sym (*ᴾ-dist p (D q) (E q))) (sym (+ᴾ-*ᴾ (D p) (E p) q));
  whole = λ c. ap₂ ◌+ᴾ◌ (d.whole c) (e.whole c) ∙ plus_idl terms 0ᴾ;
}

pub partial-constant_times : (v : ℕ) (c : ℤ) (p : WholePolynomial) → partial v (constant c *ᴾ p) ≡ constant c *ᴾ partial v p
partial-constant_times v c p =
    (partial_is_derivation v).times (constant c) p ∙ ap (λ x. constant c *ᴾ partial v p +ᴾ x *ᴾ p) ((partial_is_derivation v).whole c)
    ∙ ap (λ x. constant c *ᴾ partial v p +ᴾ x) (nil_times polynomial_ring p) ∙ plus_idr polynomial_ring _
