-- What is past stays past when it is multiplied by a variable.
use Rattle.std.specs.Prelude.{◌≡◌, ℕ, ◌+◌, ◌<◌, ◌≤◌, ◌^◌, cond, List, [], ◌∷◌, length, ℤ, pos, ◌+ℤ◌, unsigned_abs}
use Rattle.std.proofs.Common.{refl, sym, ap, ap₂, subst, ◌∙◌, arith, is_eq}
use Rattle.lie_math.specs.FiniteSumLaws.{value-of, value-plus, list-of, of_list}
use Rattle.lie_math.specs.Limits.{HasWideCoefficient, HasHighExponent, HasManyTerms}
use Rattle.lie_math.specs.Monomial.{Monomial, ◌·◌, single, powers}
use Rattle.lie_math.specs.Polynomial.{WholePolynomial, coefficient, polynomial_of, terms, ◌*ᴾ◌, variable}
use Rattle.lie_math.specs.PolynomialRing.{*ᴾ_comm}
use Rattle.lie_math.proofs.Limits.{at}
use Rattle.lie_math.proofs.PrintOrder.{monomial_cmp-·}
use Rattle.lie_math.proofs.TermWise.{times_list, length-times, polynomial_of-times, canonical_times}
use Rattle.lie_ring.specs.Causes.{IsCause}
use Rattle.lie_ring.specs.declared.failures.PastKind.TheVariants.{Coefficient, Exponent, Terms, Order, Unknowns, Width}
use Rattle.lie_ring.specs.declared.failures.PolyFail.{PolyFail}
use Rattle.lie_ring.specs.declared.failures.PolyFail.TheVariants.{Past, NoMemory}
use Rattle.lie_math.specs.Integer.{*ℤ-idl}

at_times : (k m : Monomial) (es : List (Monomial × ℤ)) → at (k · m) (times_list k (pos 1) es) ≡ at m es
at_times k m [] = refl
at_times k m (e ∷ es) = ap₂ ◌+ℤ◌ (ap₂ (λ t z. cond t z (pos 0)) (ap is_eq (monomial_cmp-· k m e.0)) (*ℤ-idl e.1)) (at_times k m es)

module _ (p : WholePolynomial) (w : ℕ) where
  raised_list : List (Monomial × ℤ)
  raised_list = times_list (single w) (pos 1) p.list

  product_is : p *ᴾ variable w ≡ polynomial_of raised_list
  unfolding raised_list
  product_is = *ᴾ_comm p (variable w) ∙ ap (λ q. variable w *ᴾ q) (sym (of_list terms p)) ∙ sym (polynomial_of-times (single w) (pos 1) p.list)

  one_is_not_zero : pos 1 ≡ pos 0 → ⊥
  one_is_not_zero e = cc

  list_is : (p *ᴾ variable w).list ≡ raised_list
  unfolding raised_list
  list_is = ap (λ (q : WholePolynomial). q.list) product_is ∙ list-of terms raised_list (canonical_times (single w) (pos 1) p.list one_is_not_zero p.canonical)

  coefficient_is : (m : Monomial) → coefficient (p *ᴾ variable w) (single w · m) ≡ coefficient p m
  unfolding raised_list
  coefficient_is m = ap (λ q. coefficient q (single w · m)) product_is ∙ value-of terms raised_list (single w · m) ∙ at_times (single w) m p.list ∙ sym (value-of terms p.list m) ∙ ap (λ q. coefficient q m) (of_list terms p)

  wide_times : HasWideCoefficient p → HasWideCoefficient (p *ᴾ variable w)
  wide_times h = (single w · h.0, subst (λ z. 2 ^ 127 ≤ unsigned_abs z) (sym (coefficient_is h.0)) h.1)

  high_times : HasHighExponent p → HasHighExponent (p *ᴾ variable w)
  high_times h = (single w · h.0, (λ e. h.1 (sym (coefficient_is h.0) ∙ e)), (h.2.0, higher _ _ _ (value-plus powers (single w) h.0 h.2.0) h.2.1))
    where
      higher : (a b c : ℕ) → c ≡ a + b → 65535 < b → 65535 < c
      higher a b c e h = omega arith

  many_times : HasManyTerms p → HasManyTerms (p *ᴾ variable w)
  unfolding raised_list
  many_times h = subst (λ n. 1000000 < n) (sym (ap length list_is ∙ length-times (single w) (pos 1) p.list)) h

  pub cause_times : (fail : PolyFail) → IsCause fail p → IsCause fail (p *ᴾ variable w)
  cause_times (Past Coefficient) h = wide_times h
  cause_times (Past Exponent) h = high_times h
  cause_times (Past Terms) h = many_times h
  cause_times (Past Order) h = absurd h
  cause_times (Past Unknowns) h = absurd h
  cause_times (Past Width) h = absurd h
  cause_times NoMemory h = tt
