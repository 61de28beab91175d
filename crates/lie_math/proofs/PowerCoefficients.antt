-- The coefficients of the powers of a variable: factors without the variable come out, and above the degree there is nothing.
use Rattle.std.specs.Prelude.{◌≡◌, ℕ, ◌+◌, ◌<◌, Bool, true, false, cond, not, eqb, List, [], ◌∷◌, ℤ, pos, ◌+ℤ◌, ◌*ℤ◌}
use Rattle.std.proofs.Common.{refl, sym, ap, ap₂, ◌∙◌, arith, true≢false}
use Rattle.std.specs.List.{AllByRecursion as Every}
use Rattle.std.specs.Ordering.{eq_by_cmp, nat_cmp}
use Rattle.lie_math.specs.Natural.{maxima}
use Rattle.lie_math.specs.SortedSum.{sum_of_entries}
use Rattle.lie_math.specs.Canonical.{sum_of_entries-nil}
use Rattle.lie_math.specs.FiniteSumLaws.{ext, sum-plus, term_additive, plus_idl}
use Rattle.lie_math.specs.Monomial.{Monomial, ◌·◌, exponent, powers, power_of, single, unit}
use Rattle.lie_math.specs.PartialDerivative.{partial}
use Rattle.lie_math.specs.Polynomial.{WholePolynomial, polynomials, terms, term, coefficient, constant, variable, 0ᴾ, ◌+ᴾ◌, ◌*ᴾ◌}
use Rattle.lie_math.specs.PolynomialRing.{AdditiveOnTerms, 0ᴾ-*ᴾ, term_times_term}
use Rattle.lie_math.specs.Powers.{power_coefficient, degree_in}
use Rattle.lie_math.specs.Variables.{IsIn, FreeOf}
use Rattle.lie_math.proofs.Dependence.{free_of_partial}
use Rattle.lie_math.proofs.FiniteSum.{key, sum_of_entries-same}
use Rattle.lie_math.proofs.LinearMap.{over_terms-out}
use Rattle.lie_math.proofs.Monomial.{bare, exponent-bare, exponent-single, exponent-·, plus_zero, ·_idr}
use Rattle.lie_math.proofs.Powers.{coefficient-power_coefficient}
use Rattle.lie_math.proofs.Tests.{same_number, other_number, eqb_self}

abbrev taken : ℕ → ℕ → Monomial → ℤ → WholePolynomial
taken v i m a = cond (eqb (exponent m v) i) (term (bare v m) a) 0ᴾ

taken_additive : (v i : ℕ) → AdditiveOnTerms (taken v i)
taken_additive v i = record {
  on_nil = λ m. elim (eqb (exponent m v) i) as (λ t. cond t (term (bare v m) (pos 0)) 0ᴾ ≡ 0ᴾ) [ true ↦ (term_additive terms).on_nil (bare v m) | false ↦ refl ];
  on_plus = λ m a b. elim (eqb (exponent m v) i) as (λ t. cond t (term (bare v m) (a +ℤ b)) 0ᴾ ≡ cond t (term (bare v m) a) 0ᴾ +ᴾ cond t (term (bare v m) b) 0ᴾ) [ true ↦ (term_additive terms).on_plus (bare v m) a b | false ↦ sym (plus_idl terms 0ᴾ) ];
}

pub power_coefficient-plus : (v i : ℕ) (p q : WholePolynomial) → power_coefficient v i (p +ᴾ q) ≡ power_coefficient v i p +ᴾ power_coefficient v i q
unfolding power_coefficient
power_coefficient-plus v i p q = sum-plus terms polynomials _ (taken_additive v i) p q

-- ---- a factor without v comes out
exponent_apart : (v w : ℕ) → ¬ (v ≡ w) → exponent (single w) v ≡ 0
exponent_apart v w n = exponent-single w v ∙ go (eq_by_cmp nat_cmp v w) refl
  where
    go : (t : Bool) → eq_by_cmp nat_cmp v w ≡ t → ◌≡◌ {A = ℕ} (cond t 1 0) 0
    go true e = absurd (n (key powers v w e))
    go false e = refl

bare-single : (v w : ℕ) (m : Monomial) → ¬ (v ≡ w) → bare v (m · single w) ≡ bare v m · single w
bare-single v w m n = ext powers (bare v (m · single w)) (bare v m · single w) (λ q.
    exponent-bare v (m · single w) q ∙ ap (λ x. cond (eq_by_cmp nat_cmp q v) 0 x) (exponent-· m (single w) q) ∙ go q (eq_by_cmp nat_cmp q v) refl
    ∙ ap (λ x. x + exponent (single w) q) (sym (exponent-bare v m q)) ∙ sym (exponent-· (bare v m) (single w) q))
  where
    plain : (a : ℕ) → a ≡ 0 → 0 ≡ 0 + a
    plain a e = omega arith

    go : (q : ℕ) (t : Bool) → eq_by_cmp nat_cmp q v ≡ t → cond t 0 (exponent m q + exponent (single w) q) ≡ cond t 0 (exponent m q) + exponent (single w) q
    go q true k = plain (exponent (single w) q) (ap (exponent (single w)) (key powers q v k) ∙ exponent_apart v w n)
    go q false k = refl

number_out : (v i : ℕ) (c : ℤ) (m : Monomial) (a : ℤ) → taken v i (m · unit) (a *ℤ c) ≡ taken v i m a *ᴾ constant c
number_out v i c m a = ap (λ n. taken v i n (a *ℤ c)) (·_idr m) ∙ go (eqb (exponent m v) i)
  where
    go : (t : Bool) → cond t (term (bare v m) (a *ℤ c)) 0ᴾ ≡ cond t (term (bare v m) a) 0ᴾ *ᴾ constant c
    go true = sym (term_times_term (bare v m) unit a c ∙ ap (λ n. term n (a *ℤ c)) (·_idr (bare v m)))
    go false = sym (0ᴾ-*ᴾ (constant c))

variable_out : (v i w : ℕ) → not (eqb w v) ≡ true → (m : Monomial) (a : ℤ) → taken v i (m · single w) (a *ℤ pos 1) ≡ taken v i m a *ᴾ variable w
variable_out v i w h m a =
    ap₂ (λ x n. cond (eqb x i) (term n (a *ℤ pos 1)) 0ᴾ) (exponent-· m (single w) v ∙ ap (λ x. exponent m v + x) (exponent_apart v w apart) ∙ plus_zero (exponent m v)) (bare-single v w m apart)
    ∙ go (eqb (exponent m v) i)
  where
    apart : ¬ (v ≡ w)
    apart e = true≢false (sym h ∙ ap not (ap (λ x. eqb w x) e ∙ eqb_self w))

    go : (t : Bool) → cond t (term (bare v m · single w) (a *ℤ pos 1)) 0ᴾ ≡ cond t (term (bare v m) a) 0ᴾ *ᴾ variable w
    go true = sym (term_times_term (bare v m) (single w) a (pos 1))
    go false = sym (0ᴾ-*ᴾ (variable w))

in_others : (v : ℕ) (p : WholePolynomial) → partial v p ≡ 0ᴾ → IsIn (λ w. not (eqb w v)) p
in_others v p z w out = go (eqb w v) refl out
  where
    go : (t : Bool) → eqb w v ≡ t → not t ≡ false → FreeOf w p
    go true e k = free_of_partial w p (ap (λ x. partial x p) (same_number w v e) ∙ z)
    go false e k = absurd (true≢false k)

pub power_coefficient-out : (v i : ℕ) (p f : WholePolynomial) → partial v f ≡ 0ᴾ → power_coefficient v i (p *ᴾ f) ≡ power_coefficient v i p *ᴾ f
unfolding power_coefficient
power_coefficient-out v i p f z = over_terms-out (taken v i) (taken_additive v i) (λ w. not (eqb w v)) (number_out v i) (variable_out v i) p f (in_others v f z)

-- ---- variables
pub in-power_coefficient : (V : ℕ → Bool) (v i : ℕ) (p : WholePolynomial) → IsIn V p → IsIn V (power_coefficient v i p)
in-power_coefficient V v i p h w out m n = less _ _ (exponent-· (power_of v i) m w) (h w out (power_of v i · m) (λ z. n (coefficient-power_coefficient v i p m ∙ go (eqb (exponent m v) 0) z)))
  where
    less : {c : ℕ} (a b : ℕ) → c ≡ a + b → c ≡ 0 → b ≡ 0
    less a b e f = omega arith

    go : (t : Bool) → coefficient p (power_of v i · m) ≡ pos 0 → cond t (coefficient p (power_of v i · m)) (pos 0) ≡ pos 0
    go true z = z
    go false z = refl

-- ---- above the degree
pub power_above : (v i : ℕ) (p : WholePolynomial) → degree_in v p < i → power_coefficient v i p ≡ 0ᴾ
unfolding power_coefficient
power_above v i p h = sum_of_entries-same polynomials _ (λ m a. 0ᴾ) p.list (go p.list h) ∙ sum_of_entries-nil polynomials p.list
  where
    apart : (e : ℕ) (q : WholePolynomial) → e < i → cond (eqb e i) q 0ᴾ ≡ 0ᴾ
    apart e q lt = ap (λ t. cond t q 0ᴾ) (other_number e i (λ s. absurd (omega arith)))

    go : (es : List (Monomial × ℤ)) → sum_of_entries maxima (λ m a. exponent m v) es < i → Every (λ (e : Monomial × ℤ). cond (eqb (exponent e.0 v) i) (term (bare v e.0) e.1) 0ᴾ ≡ 0ᴾ) es
    go [] h = tt
    go (e ∷ es) h = (apart (exponent e.0 v) _ (omega arith), go es (omega arith))
