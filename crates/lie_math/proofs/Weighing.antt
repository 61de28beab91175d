-- Each coefficient times a number that its monomial tells. A number that is not 0 can be taken off.
use Rattle.lie_math.specs.MonomialOrder.{·_idl}
use Rattle.lie_math.proofs.Integer.{no_zero_divisors_ℤ}
use Rattle.std.specs.Prelude.{◌≡◌, Bool, true, false, cond, ℤ, pos, ◌*ℤ◌}
use Rattle.std.proofs.Common.{refl, sym, ap, ap₂, ◌∙◌}
use mathlib.Core.Path.{fun_ext}
use lib.IntN.{*ℤ_comm, zero-*ℤ, *ℤ-zero}
use Rattle.std.specs.Ordering.{eq_by_cmp}
use Rattle.lie_math.specs.Integer.{*ℤ-distl, *ℤ-distr, integer_algebra, integers}
use Rattle.lie_math.specs.Polynomial.{polynomials, 0ᴾ, WholePolynomial, coefficient, constant, over_terms, term, terms, ◌*ᴾ◌, ◌+ᴾ◌}
use Rattle.lie_math.specs.FiniteSumLaws.{ext, sum-none, sum-plus, sum-term, term_additive, value-none, value-plus, value-term}
use Rattle.lie_math.specs.Evaluation.{factors}
use Rattle.lie_math.specs.PolynomialRing.{AdditiveOnTerms, term-*ᴾ, times_additive, times_right}
use Rattle.lie_math.specs.Monomial.{Monomial, monomial_cmp, unit, ◌·◌}
use Rattle.lie_math.specs.SortedSum.{sum_of_entries}
use Rattle.lie_math.specs.Canonical.{middle, sum_of_entries-map}
use Rattle.lie_math.proofs.FiniteSum as finite_proofs

module _ (w : Monomial → ℤ) where
  -- each coefficient times what w gives at its monomial
  pub scaled_additive : AdditiveOnTerms (λ k a. term k (a *ℤ w k))
  scaled_additive = record {
    on_nil = λ k. ap (term k) (zero-*ℤ (w k)) ∙ (term_additive terms).on_nil k;
    on_plus = λ k a b. ap (term k) (*ℤ-distr a b (w k)) ∙ (term_additive terms).on_plus k (a *ℤ w k) (b *ℤ w k);
  }

  unfoldable pub weigh : WholePolynomial → WholePolynomial
  weigh p = over_terms (λ k a. term k (a *ℤ w k)) p

  pub weigh-plus : (p q : WholePolynomial) → weigh (p +ᴾ q) ≡ weigh p +ᴾ weigh q
  unfolding weigh
  weigh-plus p q = sum-plus terms polynomials _ scaled_additive p q

  pub weigh_none : weigh 0ᴾ ≡ 0ᴾ
  unfolding weigh
  weigh_none = sum-none terms polynomials _ scaled_additive

  pub weigh-term : (k : Monomial) (a : ℤ) → weigh (term k a) ≡ term k (a *ℤ w k)
  unfolding weigh
  weigh-term k a = sum-term terms polynomials _ scaled_additive k a

  entry_scaled : (m k : Monomial) (a : ℤ) → cond (eq_by_cmp monomial_cmp m k) (a *ℤ w k) (pos 0) ≡ w m *ℤ cond (eq_by_cmp monomial_cmp m k) a (pos 0)
  entry_scaled m k a = go (eq_by_cmp monomial_cmp m k) refl
    where
      go : (t : Bool) → eq_by_cmp monomial_cmp m k ≡ t → cond t (a *ℤ w k) (pos 0) ≡ w m *ℤ cond t a (pos 0)
      go true e = *ℤ_comm a (w k) ∙ ap (λ x. w x *ℤ a) (sym (finite_proofs.key terms m k e))
      go false e = sym (*ℤ-zero (w m))

  pub coefficient-weigh : (p : WholePolynomial) (m : Monomial) → coefficient (weigh p) m ≡ w m *ℤ coefficient p m
  unfolding weigh
  coefficient-weigh p m =
      sum_of_entries-map polynomials integers (λ q. coefficient q m) (value-none terms m) (λ x y. value-plus terms x y m) (λ k a. term k (a *ℤ w k)) p.list
      ∙ ap (λ φ. sum_of_entries integers φ p.list) (fun_ext (λ k. fun_ext (λ a. value-term terms k (a *ℤ w k) m ∙ entry_scaled m k a)))
      ∙ sym (sum_of_entries-map integers integers (λ z. w m *ℤ z) (*ℤ-zero (w m)) (*ℤ-distl (w m)) (λ k a. cond (eq_by_cmp monomial_cmp m k) a (pos 0)) p.list)

  pub weigh_apart : ((m : Monomial) → ¬ (w m ≡ pos 0)) → (p : WholePolynomial) → weigh p ≡ 0ᴾ → p ≡ 0ᴾ
  weigh_apart n p e = ext terms p 0ᴾ (λ m. no_zero_divisors_ℤ (w m) (coefficient p m) (n m) (sym (coefficient-weigh p m) ∙ ap (λ q. coefficient q m) e ∙ value-none terms m) ∙ sym (value-none terms m))

  module _ (times : (m n : Monomial) → w (m · n) ≡ w m *ℤ w n) where
    pub weigh-times : (p q : WholePolynomial) → weigh (p *ᴾ q) ≡ weigh p *ᴾ weigh q
    unfolding weigh ◌*ᴾ◌
    weigh-times p q =
        sum_of_entries-map polynomials polynomials weigh weigh_none weigh-plus _ p.list
        ∙ ap (λ φ. over_terms φ p) (fun_ext (λ m. fun_ext (λ a.
        sum_of_entries-map polynomials polynomials weigh weigh_none weigh-plus _ q.list
        ∙ ap (λ φ. over_terms φ q) (fun_ext (λ n. fun_ext (λ b.
        weigh-term (m · n) (a *ℤ b) ∙ ap (term (m · n)) (ap (λ z. (a *ℤ b) *ℤ z) (times m n) ∙ middle (factors integer_algebra) a b (w m) (w n))
        ∙ sym (sum-term terms polynomials _ (times_right m (a *ℤ w m)) n (b *ℤ w n)))))
        ∙ sym (sum_of_entries-map polynomials polynomials (λ s. over_terms (λ n b. term (m · n) ((a *ℤ w m) *ℤ b)) s) (sum-none terms polynomials _ (times_right m (a *ℤ w m))) (sum-plus terms polynomials _ (times_right m (a *ℤ w m))) _ q.list)
        ∙ sym (term-*ᴾ m (a *ℤ w m) (weigh q)))))
        ∙ sym (sum_of_entries-map polynomials polynomials (λ s. s *ᴾ weigh q) (sum-none terms polynomials _ (times_additive (weigh q))) (sum-plus terms polynomials _ (times_additive (weigh q))) _ p.list)

-- the same number at each monomial
pub weigh-constant : (c : ℤ) (p : WholePolynomial) → weigh (λ k. c) p ≡ constant c *ᴾ p
unfolding weigh
weigh-constant c p = ap (λ φ. over_terms φ p) (fun_ext (λ k. fun_ext (λ a. ap₂ term (sym (·_idl k)) (*ℤ_comm a c)))) ∙ sym (term-*ᴾ unit c p)

-- a number that is not 0 can be taken off
pub torsion : (n : ℤ) → ¬ (n ≡ pos 0) → (p : WholePolynomial) → constant n *ᴾ p ≡ 0ᴾ → p ≡ 0ᴾ
torsion n h p e = weigh_apart (λ k. n) (λ m. h) p (weigh-constant n p ∙ e)

-- the coefficients of a multiple
pub coefficient-constant_times : (c : ℤ) (p : WholePolynomial) (m : Monomial) → coefficient (constant c *ᴾ p) m ≡ c *ℤ coefficient p m
coefficient-constant_times c p m = ap (λ q. coefficient q m) (sym (weigh-constant c p)) ∙ coefficient-weigh (λ k. c) p m
