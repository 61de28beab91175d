-- The coefficients of a derivative. A polynomial has no v exactly if its derivative by v is nothing.
use Rattle.std.specs.Prelude.{◌≡◌, ℕ, zero, suc, Bool, true, false, cond, ℤ, pos, ◌*ℤ◌}
use Rattle.std.proofs.Common.{refl, sym, ap, ap₂, ◌∙◌, arith, true≢false}
use mathlib.Core.Path.{fun_ext}
use lib.IntN.{*ℤ_comm, zero-*ℤ, *ℤ-zero}
use Rattle.std.specs.Ordering.{eq_by_cmp}
use Rattle.lie_math.specs.SortedSum.{sum_of_entries}
use Rattle.lie_math.specs.Canonical.{sum_of_entries-map}
use Rattle.lie_math.specs.FiniteSumLaws.{value-plus, value-term, value-none, ext}
use Rattle.lie_math.proofs.FiniteSum.{key}
use Rattle.lie_math.specs.Monomial.{Monomial, ◌·◌, exponent, monomial_cmp, single}
use Rattle.lie_math.proofs.Monomial.{exponent_raised, lower_raised, raised_lower, same_monomial}
use Rattle.lie_math.specs.Polynomial.{WholePolynomial, polynomials, terms, term, coefficient, 0ᴾ}
use Rattle.lie_math.specs.Integer.{integers, is_zero_int, int_nil, *ℤ-distr}
use Rattle.lie_math.specs.PartialDerivative.{partial, lower}
use Rattle.lie_math.proofs.Integer.{no_zero_divisors_ℤ}
use Rattle.lie_math.specs.Variables.{FreeOf}

-- the coefficient of a derivative
pub coefficient-partial : (v : ℕ) (p : WholePolynomial) (n : Monomial) → coefficient (partial v p) n ≡ coefficient p (single v · n) *ℤ pos (suc (exponent n v))
unfolding partial
coefficient-partial v p n =
    sum_of_entries-map polynomials integers (λ q. coefficient q n) (value-none terms n) (λ x y. value-plus terms x y n) (λ m a. term (lower v m) (a *ℤ pos (exponent m v))) p.list
    ∙ ap (λ φ. sum_of_entries integers φ p.list) (fun_ext (λ m. fun_ext (λ a. value-term terms (lower v m) _ n ∙ by_case m a (eq_by_cmp monomial_cmp (single v · n) m) refl)))
    ∙ sym (sum_of_entries-map integers integers (λ z. z *ℤ pos (suc (exponent n v))) (zero-*ℤ (pos (suc (exponent n v)))) (λ x y. *ℤ-distr x y (pos (suc (exponent n v)))) (λ m a. cond (eq_by_cmp monomial_cmp (single v · n) m) a (pos 0)) p.list)
  where
    other : (m : Monomial) (a : ℤ) (e : ℕ) → exponent m v ≡ e → eq_by_cmp monomial_cmp (single v · n) m ≡ false → (t : Bool) → eq_by_cmp monomial_cmp n (lower v m) ≡ t → cond t (a *ℤ pos e) (pos 0) ≡ pos 0
    other m a e h f false g = refl
    other m a zero h f true g = *ℤ-zero a
    other m a (suc x) h f true g = absurd (true≢false (sym (ap (λ k. eq_by_cmp monomial_cmp k m) (ap (λ k. single v · k) (key terms n (lower v m) g) ∙ raised_lower v x m h) ∙ same_monomial m) ∙ f))

    by_case : (m : Monomial) (a : ℤ) (t : Bool) → eq_by_cmp monomial_cmp (single v · n) m ≡ t → cond (eq_by_cmp monomial_cmp n (lower v m)) (a *ℤ pos (exponent m v)) (pos 0) ≡ cond t a (pos 0) *ℤ pos (suc (exponent n v))
    by_case m a true e =
        let is : single v · n ≡ m = key terms (single v · n) m e in
        ap₂ (λ k x. cond (eq_by_cmp monomial_cmp n k) (a *ℤ pos x) (pos 0)) (ap (lower v) (sym is) ∙ lower_raised v n) (ap (λ k. exponent k v) (sym is) ∙ exponent_raised v n)
        ∙ ap (λ t. cond t (a *ℤ pos (suc (exponent n v))) (pos 0)) (same_monomial n)
    by_case m a false e = other m a (exponent m v) refl e (eq_by_cmp monomial_cmp n (lower v m)) refl ∙ sym (zero-*ℤ (pos (suc (exponent n v))))

suc_apart : (k : ℕ) → ¬ (pos (suc k) ≡ pos 0)
suc_apart k e = absurd (omega (arith, ap lib.IntN.nat_abs e))

pub zero_if : (z : ℤ) → ¬ (¬ (z ≡ pos 0)) → z ≡ pos 0
zero_if z h = go (is_zero_int z) refl
  where
    go : (t : Bool) → is_zero_int z ≡ t → z ≡ pos 0
    go true e = int_nil z e
    go false e = absurd (h (λ f. true≢false (sym (ap is_zero_int f) ∙ e)))

pub clash : {a b : ℕ} → a ≡ suc b → a ≡ 0 → ⊥
clash e f = omega arith

pub partial_of_free : (v : ℕ) (p : WholePolynomial) → FreeOf v p → partial v p ≡ 0ᴾ
partial_of_free v p h = ext terms (partial v p) 0ᴾ (λ n. coefficient-partial v p n ∙ ap (λ z. z *ℤ pos (suc (exponent n v))) (zero_if _ (λ k. clash (exponent_raised v n) (h (single v · n) k))) ∙ zero-*ℤ (pos (suc (exponent n v))) ∙ sym (value-none terms n))

pub free_of_partial : (v : ℕ) (p : WholePolynomial) → partial v p ≡ 0ᴾ → FreeOf v p
free_of_partial v p e m h = go (exponent m v) refl
  where
    go : (x : ℕ) → exponent m v ≡ x → x ≡ 0
    go zero f = refl
    go (suc x) f = absurd (h (no_zero_divisors_ℤ (pos (suc (exponent (lower v m) v))) (coefficient p m) (suc_apart _) (
        *ℤ_comm _ (coefficient p m) ∙ ap (λ k. coefficient p k *ℤ pos (suc (exponent (lower v m) v))) (sym (raised_lower v x m f)) ∙ sym (coefficient-partial v p (lower v m)) ∙ ap (λ q. coefficient q (lower v m)) e ∙ value-none terms (lower v m))))

-- ---- what is free of v is closed
