-- The chain rule: a derivation is the sum of its values at the variables times the partial derivatives.
use Rattle.lie_math.proofs.Derivation.{derivations_agree}
use Rattle.lie_math.proofs.DualNumbers.{dual_derivation, dual_is_derivation, dual-variable}
use Rattle.std.specs.Prelude.{◌≡◌, ℕ, zero, suc, ◌<◌, ◌≤◌, Bool, true, false, pos}
use Rattle.std.proofs.Common.{refl, sym, ap, ap₂, subst, ◌∙◌, arith, ltb, ltb-true, ltb-false, le-ltb}
use mathlib.Core.Path.{fun_ext}
use Rattle.lie_math.specs.Polynomial.{0ᴾ, WholePolynomial, constant, terms, variable, ◌*ᴾ◌, ◌+ᴾ◌}
use Rattle.lie_math.specs.PolynomialRing.{*ᴾ_comm, one-*ᴾ, polynomial_ring}
use Rattle.lie_math.proofs.Ring.{plus_idr, times_nil}
use Rattle.lie_math.specs.Derivation.{IsDerivation, bound, derivation, is_below, numbers_below, sum_of}
use Rattle.lie_math.proofs.SumOf.{multiples_is_derivation}
use Rattle.lie_math.specs.FiniteSumLaws.{plus_idl}
use Rattle.lie_math.specs.Variables.{IsIn}
use Rattle.lie_math.specs.PartialDerivative.{partial}
use Rattle.lie_math.proofs.Variables.{derived_agrees, in-bound}
use Rattle.lie_math.proofs.PartialDerivation.{partial_is_derivation, partial-itself, partial-other}

pub one_of : (n : ℕ) (d : ℕ → WholePolynomial) (w : ℕ) → ltb w n ≡ false → sum_of (numbers_below n) (λ i. d i *ᴾ partial i (variable w)) ≡ 0ᴾ
one_of zero d w h = refl
one_of (suc n) d w h = ap₂ ◌+ᴾ◌ (ap (λ z. d n *ᴾ z) (partial-other n w (apart (ltb-false w (suc n) h))) ∙ times_nil polynomial_ring (d n)) (one_of n d w (le-ltb w n (weaker (ltb-false w (suc n) h)))) ∙ plus_idl terms 0ᴾ
  where
    apart : suc n ≤ w → n ≡ w → ⊥
    apart h e = omega arith

    weaker : suc n ≤ w → n ≤ w
    weaker h = omega arith

pub one_at : (n : ℕ) (d : ℕ → WholePolynomial) (w : ℕ) → w < n → sum_of (numbers_below n) (λ i. d i *ᴾ partial i (variable w)) ≡ d w
one_at zero d w h = absurd (omega arith)
one_at (suc n) d w h = go (ltb w n) refl (one_at n d w)
  where
    go : (t : Bool) → ltb w n ≡ t → (w < n → sum_of (numbers_below n) (λ i. d i *ᴾ partial i (variable w)) ≡ d w) → d n *ᴾ partial n (variable w) +ᴾ sum_of (numbers_below n) (λ i. d i *ᴾ partial i (variable w)) ≡ d w
    go true e ih = ap₂ ◌+ᴾ◌ (ap (λ z. d n *ᴾ z) (partial-other n w (apart (ltb-true w n e))) ∙ times_nil polynomial_ring (d n)) (ih (ltb-true w n e)) ∙ plus_idl terms (d w)
      where
        apart : w < n → n ≡ w → ⊥
        apart h e = omega arith
    go false e ih =
        let same : n ≡ w = equal (ltb-false w n e) in
        ap₂ ◌+ᴾ◌ (ap (λ z. d n *ᴾ partial n (variable z)) (sym same) ∙ ap (λ z. d n *ᴾ z) (partial-itself n) ∙ *ᴾ_comm (d n) (constant (pos 1)) ∙ one-*ᴾ (d n)) (one_of n d w e) ∙ plus_idr polynomial_ring (d n) ∙ ap d same
      where
        equal : n ≤ w → n ≡ w
        equal g = omega arith

pub chain_rule_below : (n : ℕ) (d : ℕ → WholePolynomial) {D : WholePolynomial → WholePolynomial} → IsDerivation D → ((w : ℕ) → D (variable w) ≡ d w) → (p : WholePolynomial) → IsIn (is_below n) p → sum_of (numbers_below n) (λ w. d w *ᴾ partial w p) ≡ D p
chain_rule_below n d {D} is at p h = derived_agrees (is_below n) (multiples_is_derivation (numbers_below n) d partial partial_is_derivation) is (λ w e. one_at n d w (ltb-true w n e) ∙ sym (at w)) p h

-- ---- the variables of the terms
-- the derivation with given values at the variables
derivation_is_dual : (d : ℕ → WholePolynomial) (p : WholePolynomial) → derivation d p ≡ dual_derivation d p
unfolding derivation
derivation_is_dual d p = chain_rule_below (bound p) d (dual_is_derivation d) (dual-variable d) p (in-bound p)

pub derivation_is_derivation : (d : ℕ → WholePolynomial) → IsDerivation (derivation d)
derivation_is_derivation d = subst IsDerivation (sym (fun_ext (derivation_is_dual d))) (dual_is_derivation d)

pub derivation-variable : (d : ℕ → WholePolynomial) (w : ℕ) → derivation d (variable w) ≡ d w
derivation-variable d w = derivation_is_dual d (variable w) ∙ dual-variable d w

pub chain_rule : (d : ℕ → WholePolynomial) (p : WholePolynomial) → sum_of (numbers_below (bound p)) (λ w. d w *ᴾ partial w p) ≡ derivation d p
unfolding derivation
chain_rule d p = refl

-- each derivation is that of its values at the variables
pub derivation_is_chain_rule : (D : WholePolynomial → WholePolynomial) → IsDerivation D → (p : WholePolynomial) → D p ≡ sum_of (numbers_below (bound p)) (λ w. D (variable w) *ᴾ partial w p)
derivation_is_chain_rule D d p = derivations_agree d (derivation_is_derivation (λ w. D (variable w))) (λ w. sym (derivation-variable (λ w. D (variable w)) w)) p ∙ sym (chain_rule (λ w. D (variable w)) p)
