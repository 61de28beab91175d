-- A polynomial as a sum of products of a monomial in some variables and a polynomial in the others: it is 0 exactly if each of these polynomials is.
use Rattle.std.specs.Prelude.{◌≡◌, ℕ, ◌+◌, Bool, true, false, cond, not, List, [], ◌∷◌, ℤ, pos, ◌+ℤ◌, ◌*ℤ◌}
use Rattle.std.proofs.Common.{refl, sym, ap, ap₂, ◌∙◌, arith, true≢false}
use mathlib.Core.Path.{fun_ext}
use lib.IntN.{zero-*ℤ}
use Rattle.std.specs.Ordering.{eq_by_cmp, nat_cmp}
use Rattle.lie_math.specs.FiniteSum as finite
use Rattle.lie_math.proofs.Monomial as monomials
use Rattle.lie_math.specs.FiniteSumLaws as finite_laws
use Rattle.lie_math.proofs.FiniteSum as finite_proofs
use Rattle.lie_math.specs.Canonical.{sum_of_entries-map}
use Rattle.lie_math.specs.Evaluation.{factors, to_power, monomial_value, value_in}
use Rattle.lie_math.specs.FiniteSumLaws.{ext, value-plus, value-none, value-term, term_additive}
use Rattle.lie_math.specs.Integer.{integers}
use Rattle.lie_math.specs.Monomial.{powers, Monomial, monomial_cmp, exponent, unit, ◌·◌, single}
use Rattle.lie_math.specs.Natural.{naturals}
use Rattle.lie_math.specs.Polynomial.{term, terms, WholePolynomial, coefficient, 0ᴾ, polynomials, over_terms, ◌*ᴾ◌, constant, variable}
use Rattle.lie_math.specs.PolynomialRing.{AdditiveOnTerms, term_times_term, polynomial_algebra}
use Rattle.lie_math.specs.SortedSum.{sum_of_entries}
use Rattle.lie_math.specs.Variables.{IsIn}
use Rattle.lie_math.proofs.Evaluation.{to_power_additive, value_in-plus, value_in-0ᴾ, value_in-term}
use Rattle.lie_math.proofs.Kept.{keep}
use Rattle.lie_math.proofs.LinearMap.{IsAdditive, over_terms_additive, over_terms-out}
use Rattle.lie_math.proofs.Substitution.{value_in_itself}
use Rattle.lie_math.proofs.Variables.{kept_in}
use Rattle.lie_geometry.specs.DeterminingEquations.{restrict, part}
use Rattle.lie_math.proofs.Monomial.{plus_zero, ·_idr}

-- the factors with variables outside S
abbrev pub outer : (ℕ → Bool) → Monomial → Monomial
outer S m = restrict (λ v. not (S v)) m

abbrev pub same_monomial : Monomial → Monomial → Bool
same_monomial m n = eq_by_cmp monomial_cmp m n

pub exponent-restrict : (S : ℕ → Bool) (m : Monomial) (v : ℕ) → exponent (restrict S m) v ≡ cond (S v) (exponent m v) 0
unfolding restrict
exponent-restrict S m v =
    sum_of_entries-map (finite_laws.adder powers) naturals (λ n. exponent n v) (value-none powers v) (λ x y. value-plus powers x y v) (λ w e. finite.term powers w (cond (S w) e 0)) m.list
    ∙ ap (λ φ. sum_of_entries naturals φ m.list) (fun_ext (λ w. fun_ext (λ e. value-term powers w (cond (S w) e 0) v ∙ tied w e (eq_by_cmp nat_cmp v w) refl)))
    ∙ out (S v) m.list
  where
    tied : (w e : ℕ) (t : Bool) → eq_by_cmp nat_cmp v w ≡ t → ◌≡◌ {A = ℕ} (cond t (cond (S w) e 0) 0) (cond (S v) (cond t e 0) 0)
    tied w e true f = ap (λ x. cond (S x) e 0) (sym (finite_proofs.key powers v w f))
    tied w e false f = elim (S v) as (λ b. ◌≡◌ {A = ℕ} 0 (cond b 0 0)) [ true ↦ refl | false ↦ refl ]

    out : (b : Bool) (es : List (ℕ × ℕ)) → sum_of_entries naturals (λ w e. cond b (cond (eq_by_cmp nat_cmp v w) e 0) 0) es ≡ cond b (sum_of_entries naturals (λ w e. cond (eq_by_cmp nat_cmp v w) e 0) es) 0
    out true es = refl
    out false [] = refl
    out false (e ∷ es) = ap (λ n. 0 + n) (out false es)

pub restrict-· : (S : ℕ → Bool) (m n : Monomial) → restrict S (m · n) ≡ restrict S m · restrict S n
restrict-· S m n = ext powers (restrict S (m · n)) (restrict S m · restrict S n) (λ v.
    exponent-restrict S (m · n) v ∙ ap (λ e. cond (S v) e 0) (value-plus powers m n v) ∙ split (S v) (exponent m v) (exponent n v)
    ∙ sym (value-plus powers (restrict S m) (restrict S n) v ∙ ap₂ (λ a b. a + b) (exponent-restrict S m v) (exponent-restrict S n v)))
  where
    split : (t : Bool) (a b : ℕ) → cond t (a + b) 0 ≡ cond t a 0 + cond t b 0
    split true a b = refl
    split false a b = refl

pub restrict_join : (S : ℕ → Bool) (m : Monomial) → restrict S m · outer S m ≡ m
restrict_join S m = ext powers (restrict S m · outer S m) m (λ v.
    value-plus powers (restrict S m) (outer S m) v ∙ ap₂ (λ a b. a + b) (exponent-restrict S m v) (exponent-restrict (λ v. not (S v)) m v) ∙ joined (S v) (exponent m v))
  where
    joined : (t : Bool) (a : ℕ) → cond t a 0 + cond (not t) a 0 ≡ a
    joined true a = plus_zero a
    joined false a = plain a
      where
        plain : (a : ℕ) → 0 + a ≡ a
        plain a = omega arith

restrict_power : (S : ℕ → Bool) (w : ℕ) → restrict S (single w) ≡ cond (S w) (single w) unit
restrict_power S w = ext powers (restrict S (single w)) (cond (S w) (single w) unit) (λ v.
    exponent-restrict S (single w) v ∙ ap (λ e. cond (S v) e 0) (value-term powers w 1 v) ∙ at v (eq_by_cmp nat_cmp v w) refl)
  where
    both : (t : Bool) (v : ℕ) → ◌≡◌ {A = ℕ} (cond t (exponent (single w) v) 0) (exponent (cond t (single w) unit) v)
    both true v = refl
    both false v = sym (value-none powers v)

    at : (v : ℕ) (t : Bool) → eq_by_cmp nat_cmp v w ≡ t → ◌≡◌ {A = ℕ} (cond (S v) (cond t 1 0) 0) (exponent (cond (S w) (single w) unit) v)
    at v true f = ap (λ t. cond (S v) (cond t 1 0) 0) (sym f) ∙ ap (λ e. cond (S v) e 0) (sym (value-term powers w 1 v)) ∙ ap (λ x. cond (S x) (exponent (single w) v) 0) (finite_proofs.key powers v w f) ∙ both (S w) v
    at v false f = zero_by (S v) ∙ sym (zero_by (S w)) ∙ ap (λ n. cond (S w) n 0) (sym (value-term powers w 1 v ∙ ap (λ t. cond t 1 0) f)) ∙ both (S w) v
      where
        zero_by : (b : Bool) → ◌≡◌ {A = ℕ} (cond b 0 0) 0
        zero_by true = refl
        zero_by false = refl

module _ (S : ℕ → Bool) (μ : Monomial) where
  abbrev pub part_term : Monomial → ℤ → WholePolynomial
  part_term m a = term (restrict S m) (cond (same_monomial μ (outer S m)) a (pos 0))

  pub part_additive : AdditiveOnTerms part_term
  part_additive = record {
    on_nil = λ m. ap (term (restrict S m)) (none (same_monomial μ (outer S m))) ∙ (term_additive terms).on_nil (restrict S m);
    on_plus = λ m a b. ap (term (restrict S m)) (sums (same_monomial μ (outer S m)) a b) ∙ (term_additive terms).on_plus (restrict S m) _ _;
  }
    where
      none : (t : Bool) → cond t (pos 0) (pos 0) ≡ pos 0
      none true = refl
      none false = refl

      sums : (t : Bool) (a b : ℤ) → cond t (a +ℤ b) (pos 0) ≡ cond t a (pos 0) +ℤ cond t b (pos 0)
      sums true a b = refl
      sums false a b = refl

  pub part_linear : IsAdditive (part S μ)
  unfolding part
  part_linear = over_terms_additive part_term part_additive

  times_in : (t : Bool) (a c : ℤ) → cond t (a *ℤ c) (pos 0) ≡ cond t a (pos 0) *ℤ c
  times_in true a c = refl
  times_in false a c = sym (zero-*ℤ c)

  pub part_out : (p f : WholePolynomial) → IsIn S f → part S μ (p *ᴾ f) ≡ part S μ p *ᴾ f
  unfolding part
  part_out = over_terms-out part_term part_additive S
      (λ c m a. ap (λ n. part_term n (a *ℤ c)) (·_idr m) ∙ ap₂ term (sym (·_idr (restrict S m))) (times_in (same_monomial μ (outer S m)) a c) ∙ sym (term_times_term (restrict S m) unit (cond (same_monomial μ (outer S m)) a (pos 0)) c))
      (λ w h m a.
      ap₂ term (restrict-· S m (single w) ∙ ap (λ n. restrict S m · n) (restrict_power S w ∙ ap (λ t. cond t (single w) unit) h))
      (ap (λ n. cond (same_monomial μ n) (a *ℤ pos 1) (pos 0)) (restrict-· (λ v. not (S v)) m (single w) ∙ ap (λ n. outer S m · n) (restrict_power (λ v. not (S v)) w ∙ ap (λ t. cond (not t) (single w) unit) h) ∙ ·_idr (outer S m))
      ∙ times_in (same_monomial μ (outer S m)) a (pos 1))
      ∙ sym (term_times_term (restrict S m) (single w) (cond (same_monomial μ (outer S m)) a (pos 0)) (pos 1)))

-- ---- the coefficients
equal_monomials : (m n : Monomial) → m ≡ n → same_monomial m n ≡ true
equal_monomials m n e = ap (λ x. same_monomial m x) (sym e) ∙ monomials.same_monomial m

module _ (S : ℕ → Bool) where
  pub coefficient-part : (p : WholePolynomial) (m : Monomial) → coefficient (part S (outer S m) p) (restrict S m) ≡ coefficient p m
  unfolding part
  coefficient-part p m =
      sum_of_entries-map polynomials integers (λ q. coefficient q (restrict S m)) (value-none terms (restrict S m)) (λ x y. value-plus terms x y (restrict S m)) (part_term S (outer S m)) p.list
      ∙ ap (λ φ. sum_of_entries integers φ p.list) (fun_ext (λ k. fun_ext (λ a. value-term terms (restrict S k) (cond (same_monomial (outer S m) (outer S k)) a (pos 0)) (restrict S m) ∙ at k a (same_monomial (restrict S m) (restrict S k)) (same_monomial (outer S m) (outer S k)) (same_monomial m k) refl refl refl)))
    where
      at : (k : Monomial) (a : ℤ) (s t r : Bool) → same_monomial (restrict S m) (restrict S k) ≡ s → same_monomial (outer S m) (outer S k) ≡ t → same_monomial m k ≡ r → cond s (cond t a (pos 0)) (pos 0) ≡ cond r a (pos 0)
      at k a true true true e f g = refl
      at k a true true false e f g = absurd (true≢false (sym (equal_monomials m k (sym (restrict_join S m) ∙ ap₂ (λ x y. x · y) (finite_proofs.key terms _ _ e) (finite_proofs.key terms _ _ f) ∙ restrict_join S k)) ∙ g))
      at k a true false true e f g = absurd (true≢false (sym (equal_monomials _ _ (ap (outer S) (finite_proofs.key terms m k g))) ∙ f))
      at k a false t true e f g = absurd (true≢false (sym (equal_monomials _ _ (ap (restrict S) (finite_proofs.key terms m k g))) ∙ e))
      at k a true false false e f g = refl
      at k a false t false e f g = refl

  -- a polynomial is 0 exactly if each part is
  pub parts_zero : (p : WholePolynomial) → ((μ : Monomial) → part S μ p ≡ 0ᴾ) → p ≡ 0ᴾ
  parts_zero p h = ext terms p 0ᴾ (λ m. sym (coefficient-part p m) ∙ ap (λ q. coefficient q (restrict S m)) (h (outer S m)) ∙ value-none terms (restrict S m) ∙ sym (value-none terms m))

  pub zero_parts : (p : WholePolynomial) → p ≡ 0ᴾ → (μ : Monomial) → part S μ p ≡ 0ᴾ
  zero_parts p e μ = ap (part S μ) e ∙ (part_linear S μ).none

-- ---- a part has the variables of S alone
restrict_value : (S : ℕ → Bool) (m : Monomial) → monomial_value polynomial_algebra (keep S) (restrict S m) ≡ monomial_value polynomial_algebra variable (restrict S m)
unfolding restrict
restrict_value S m = in_factors (keep S) ∙ ap (λ φ. sum_of_entries (factors polynomial_algebra) φ m.list) (fun_ext (λ w. fun_ext (λ e. at w e (S w) refl))) ∙ sym (in_factors variable)
  where
    in_factors : (to : ℕ → WholePolynomial) → monomial_value polynomial_algebra to (sum_of_entries (finite_laws.adder powers) (λ v e. finite.term powers v (cond (S v) e 0)) m.list) ≡ sum_of_entries (factors polynomial_algebra) (λ v e. to_power polynomial_algebra (to v) (cond (S v) e 0)) m.list
    in_factors to =
        sum_of_entries-map (finite_laws.adder powers) (factors polynomial_algebra) (monomial_value polynomial_algebra to) (finite_laws.sum-none powers (factors polynomial_algebra) _ (to_power_additive polynomial_algebra to)) (finite_laws.sum-plus powers (factors polynomial_algebra) _ (to_power_additive polynomial_algebra to)) (λ v e. finite.term powers v (cond (S v) e 0)) m.list
        ∙ ap (λ φ. sum_of_entries (factors polynomial_algebra) φ m.list) (fun_ext (λ v. fun_ext (λ e. finite_laws.sum-term powers (factors polynomial_algebra) _ (to_power_additive polynomial_algebra to) v (cond (S v) e 0))))

    at : (w e : ℕ) (t : Bool) → S w ≡ t → to_power polynomial_algebra (cond (S w) (variable w) 0ᴾ) (cond (S w) e 0) ≡ to_power polynomial_algebra (variable w) (cond (S w) e 0)
    at w e true h = ap (λ t. to_power polynomial_algebra (cond t (variable w) 0ᴾ) (cond t e 0)) h ∙ sym (ap (λ t. to_power polynomial_algebra (variable w) (cond t e 0)) h)
    at w e false h = ap (λ t. to_power polynomial_algebra (cond t (variable w) 0ᴾ) (cond t e 0)) h ∙ sym (ap (λ t. to_power polynomial_algebra (variable w) (cond t e 0)) h)

pub part_in : (S : ℕ → Bool) (μ : Monomial) (p : WholePolynomial) → IsIn S (part S μ p)
unfolding part
part_in S μ p = kept_in S (part S μ p) (
    sum_of_entries-map polynomials polynomials (value_in polynomial_algebra (keep S)) (value_in-0ᴾ polynomial_algebra (keep S)) (value_in-plus polynomial_algebra (keep S)) (part_term S μ) p.list
    ∙ ap (λ φ. over_terms φ p) (fun_ext (λ m. fun_ext (λ a. in_term m (cond (same_monomial μ (outer S m)) a (pos 0))))))
  where
    in_term : (m : Monomial) (a : ℤ) → value_in polynomial_algebra (keep S) (term (restrict S m) a) ≡ term (restrict S m) a
    in_term m a = value_in-term polynomial_algebra (keep S) (restrict S m) a ∙ ap (λ z. constant a *ᴾ z) (restrict_value S m) ∙ sym (value_in-term polynomial_algebra variable (restrict S m) a) ∙ value_in_itself (term (restrict S m) a)
