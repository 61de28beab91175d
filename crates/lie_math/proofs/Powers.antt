-- The coefficients of the powers of one variable tell a polynomial; a factor without the variable can be taken out of them.
use Rattle.std.specs.Prelude.{◌≡◌, ℕ, ◌+◌, Bool, true, false, cond, T, ℤ, pos, ◌+ℤ◌, eqb}
use Rattle.std.proofs.Common.{refl, sym, ap, subst, ◌∙◌, true≢false, eqb→eq, eq-eqb}
use mathlib.Core.Path.{fun_ext}
use Rattle.std.specs.Ordering.{eq_by_cmp}
use Rattle.lie_math.specs.SortedSum.{sum_of_entries}
use Rattle.lie_math.specs.Canonical.{sum_of_entries-map, sum_of_entries-nil}
use Rattle.lie_math.specs.FiniteSumLaws.{value-plus, value-term, value-none, ext, sum-none, term_additive, plus_idl}
use Rattle.lie_math.proofs.FiniteSum.{key}
use Rattle.lie_math.specs.Monomial.{Monomial, ◌·◌, exponent, monomial_cmp, power_of}
use Rattle.lie_math.proofs.Monomial.{same_monomial, bare, exponent_bared, exponent_powered, powered_bare, bare_powered, plus_zero}
use Rattle.lie_math.specs.Polynomial.{WholePolynomial, polynomials, terms, term, coefficient, 0ᴾ, ◌+ᴾ◌}
use Rattle.lie_math.specs.Integer.{integers}
use Rattle.lie_math.specs.PolynomialRing.{AdditiveOnTerms}
use Rattle.lie_math.specs.Powers.{power_coefficient}

pub coefficient-power_coefficient : (v i : ℕ) (p : WholePolynomial) (n : Monomial) → coefficient (power_coefficient v i p) n ≡ cond (eqb (exponent n v) 0) (coefficient p (power_of v i · n)) (pos 0)
unfolding power_coefficient
coefficient-power_coefficient v i p n =
    sum_of_entries-map polynomials integers (λ q. coefficient q n) (value-none terms n) (λ x y. value-plus terms x y n) _ p.list
    ∙ ap (λ φ. sum_of_entries integers φ p.list) (fun_ext (λ m. fun_ext (λ a. one m a (eqb (exponent m v) i) refl)))
    ∙ whole (eqb (exponent n v) 0)
  where
    whole : (t : Bool) → sum_of_entries integers (λ m a. cond t (cond (eq_by_cmp monomial_cmp (power_of v i · n) m) a (pos 0)) (pos 0)) p.list ≡ cond t (coefficient p (power_of v i · n)) (pos 0)
    whole true = refl
    whole false = sum_of_entries-nil integers p.list

    apart : (m : Monomial) (a : ℤ) → eqb (exponent m v) i ≡ false → (s : Bool) → eqb (exponent n v) 0 ≡ s → (t : Bool) → eq_by_cmp monomial_cmp (power_of v i · n) m ≡ t → pos 0 ≡ cond s (cond t a (pos 0)) (pos 0)
    apart m a f false e t g = refl
    apart m a f true e false g = refl
    apart m a f true e true g = absurd (true≢false (sym (eq-eqb (exponent m v) i (sym (ap (λ k. exponent k v) (key terms (power_of v i · n) m g)) ∙ exponent_powered v i n ∙ ap (λ k. i + k) (eqb→eq (exponent n v) 0 (subst T (sym e) tt)) ∙ plus_zero i)) ∙ f))

    bared : (m : Monomial) (a : ℤ) → exponent m v ≡ i → (s : Bool) → eqb (exponent n v) 0 ≡ s → (t : Bool) → eq_by_cmp monomial_cmp n (bare v m) ≡ t → (u : Bool) → eq_by_cmp monomial_cmp (power_of v i · n) m ≡ u → cond t a (pos 0) ≡ cond s (cond u a (pos 0)) (pos 0)
    bared m a f false e false g u k = refl
    bared m a f false e true g u k = absurd (true≢false (sym (eq-eqb (exponent n v) 0 (ap (λ x. exponent x v) (key terms n (bare v m) g) ∙ exponent_bared v m)) ∙ e))
    bared m a f true e false g false k = refl
    bared m a f true e true g true k = refl
    bared m a f true e true g false k = absurd (true≢false (sym (ap (λ x. eq_by_cmp monomial_cmp x m) (ap (λ x. power_of v i · x) (key terms n (bare v m) g) ∙ powered_bare v i m f) ∙ same_monomial m) ∙ k))
    bared m a f true e false g true k = absurd (true≢false (sym (ap (λ x. eq_by_cmp monomial_cmp n x) (ap (bare v) (sym (key terms (power_of v i · n) m k)) ∙ bare_powered v i n (eqb→eq (exponent n v) 0 (subst T (sym e) tt))) ∙ same_monomial n) ∙ g))

    one : (m : Monomial) (a : ℤ) (t : Bool) → eqb (exponent m v) i ≡ t → coefficient (cond t (term (bare v m) a) 0ᴾ) n ≡ cond (eqb (exponent n v) 0) (cond (eq_by_cmp monomial_cmp (power_of v i · n) m) a (pos 0)) (pos 0)
    one m a true e = value-term terms (bare v m) a n ∙ bared m a (eqb→eq (exponent m v) i (subst T (sym e) tt)) _ refl _ refl _ refl
    one m a false e = value-none terms n ∙ apart m a e _ refl _ refl

-- a polynomial with no coefficient of any power is nothing
pub power_coefficients_nothing : (v : ℕ) (p : WholePolynomial) → ((i : ℕ) → power_coefficient v i p ≡ 0ᴾ) → p ≡ 0ᴾ
power_coefficients_nothing v p h = ext terms p 0ᴾ (λ m.
    ap (coefficient p) (sym (powered_bare v (exponent m v) m refl))
    ∙ sym (coefficient-power_coefficient v (exponent m v) p (bare v m) ∙ ap (λ t. cond t (coefficient p (power_of v (exponent m v) · bare v m)) (pos 0)) (eq-eqb (exponent (bare v m) v) 0 (exponent_bared v m)))
    ∙ ap (λ q. coefficient q (bare v m)) (h (exponent m v)) ∙ value-none terms (bare v m) ∙ sym (value-none terms m))

power_coefficient_additive : (v i : ℕ) → AdditiveOnTerms (λ m a. cond (eqb (exponent m v) i) (term (bare v m) a) 0ᴾ)
power_coefficient_additive v i = record {
  on_nil = λ m. elim (eqb (exponent m v) i) as (λ t. cond t (term (bare v m) (pos 0)) 0ᴾ ≡ 0ᴾ) [ true ↦ (term_additive terms).on_nil (bare v m) | false ↦ refl ];
  on_plus = λ m a b. elim (eqb (exponent m v) i) as (λ t. cond t (term (bare v m) (a +ℤ b)) 0ᴾ ≡ cond t (term (bare v m) a) 0ᴾ +ᴾ cond t (term (bare v m) b) 0ᴾ) [ true ↦ (term_additive terms).on_plus (bare v m) a b | false ↦ sym (plus_idl terms 0ᴾ) ];
}

pub power_coefficient-0ᴾ : (v i : ℕ) → power_coefficient v i 0ᴾ ≡ 0ᴾ
unfolding power_coefficient
power_coefficient-0ᴾ v i = sum-none terms polynomials _ (power_coefficient_additive v i)
