-- A product by one term, and a derivative, term by term: both keep the print order.
use Rattle.std.specs.Prelude.{◌≡◌, ℕ, zero, suc, ◌+◌, ◌-◌, ◌<◌, Bool, true, false, cond, not, T, List, [], ◌∷◌, length, ℤ, pos, ◌*ℤ◌, unsigned_abs}
use Rattle.std.proofs.Common.{refl, sym, ap, ap₂, subst, ◌∙◌, arith, get_or, Ordering, Less, Equal, Greater, is_lt, is_eq, eqb, eqb→eq}
use Rattle.std.proofs.lemmas.Int.{unsigned_abs-mul}
use Rattle.std.specs.Ordering.{eq_by_cmp, nat_cmp}
use lib.IntN.{*ℤ_comm, *ℤ-zero}
use Rattle.lie_math.specs.SortedSum.{sum_of_entries, below_all}
use Rattle.lie_math.specs.Canonical.{both, first, second}
use Rattle.lie_math.specs.FiniteSumLaws.{sum-of, sum-none, sum-term, value-plus, value-term, ext, term_additive}
use Rattle.lie_math.proofs.FiniteSum.{value-put}
use Rattle.lie_math.specs.FiniteSum as finite
use Rattle.lie_math.specs.FiniteSumLaws as finite_laws
use Rattle.lie_math.proofs.FiniteSum as finite_proofs
use Rattle.lie_math.proofs.Integer.{no_zero_divisors_ℤ, not_zero}
use Rattle.lie_math.specs.Monomial.{Monomial, ◌·◌, monomial_cmp, exponent, powers}
use Rattle.lie_math.specs.Polynomial.{WholePolynomial, polynomials, terms, term, polynomial_of, 0ᴾ, ◌+ᴾ◌, ◌*ᴾ◌}
use Rattle.lie_math.specs.Integer.{coefficients, is_zero_int, int_nil}
use Rattle.lie_math.specs.PolynomialRing.{polynomial_of-none, term-*ᴾ, times_right, 0ᴾ-*ᴾ}
use Rattle.lie_math.specs.PartialDerivative.{partial, lower}
use Rattle.lie_math.proofs.PartialDerivative.{partial_additive}
use Rattle.lie_math.specs.Limits.{absolutes}
use Rattle.lie_math.specs.FiniteSum.{IsCanonical}
use Rattle.lie_math.proofs.CanonicalLists.{canonical_value, canonical_below, canonical_tail, canonical_cons, of-cons}
use Rattle.lie_math.proofs.PrintOrder.{monomial_cmp-·}
use Rattle.lie_math.proofs.Limits.{IsCovered, covered_first, covered_second, covered_trans, nonneg_absolutes, term_is, by_test}

-- ---- a product by one term

abbrev pub times_list : Monomial → ℤ → List (Monomial × ℤ) → List (Monomial × ℤ)
times_list m c [] = []
times_list m c (e ∷ es) = (m · e.0, c *ℤ e.1) ∷ times_list m c es

pub length-times : (m : Monomial) (c : ℤ) (es : List (Monomial × ℤ)) → length (times_list m c es) ≡ length es
length-times m c [] = refl
length-times m c (e ∷ es) = ap suc (length-times m c es)

listed : (m : Monomial) (c : ℤ) (es : List (Monomial × ℤ)) → sum_of_entries polynomials (λ n b. term (m · n) (c *ℤ b)) es ≡ polynomial_of (times_list m c es)
listed m c [] = sym polynomial_of-none
listed m c (e ∷ es) = ap₂ ◌+ᴾ◌ (term_is (m · e.0) (c *ℤ e.1)) (listed m c es) ∙ sym (of-cons terms (m · e.0, c *ℤ e.1) (times_list m c es))

pub polynomial_of-times : (m : Monomial) (c : ℤ) (es : List (Monomial × ℤ)) → polynomial_of (times_list m c es) ≡ term m c *ᴾ polynomial_of es
polynomial_of-times m c es = sym (term-*ᴾ m c (polynomial_of es) ∙ sum-of terms polynomials (λ n b. term (m · n) (c *ℤ b)) (times_right m c) es ∙ listed m c es)

pub zero_times : (m : Monomial) (p : WholePolynomial) → term m (pos 0) *ᴾ p ≡ 0ᴾ
zero_times m p = ap (λ x. x *ᴾ p) ((term_additive terms).on_nil m) ∙ 0ᴾ-*ᴾ p

below_times : (k m : Monomial) (c : ℤ) (es : List (Monomial × ℤ)) → T (below_all monomial_cmp coefficients m es) → T (below_all monomial_cmp coefficients (k · m) (times_list k c es))
below_times k m c [] h = tt
below_times k m c (e ∷ es) h =
    both _ (below_all monomial_cmp coefficients (k · m) (times_list k c es)) (subst (λ r. T (is_lt r)) (sym (monomial_cmp-· k m e.0)) (first _ (below_all monomial_cmp coefficients m es) h)) (below_times k m c es (second (is_lt (monomial_cmp m e.0)) _ h))

pub not_zero_test : (z : ℤ) → ¬ (z ≡ pos 0) → T (not (is_zero_int z))
not_zero_test z n = by_test (is_zero_int z) (λ e. n (int_nil z e))

pub test_not_zero : (z : ℤ) → T (not (is_zero_int z)) → ¬ (z ≡ pos 0)
test_not_zero z t e = subst (λ w. T (not (is_zero_int w))) e t

product_not_zero : (a b : ℤ) → ¬ (a ≡ pos 0) → T (not (is_zero_int b)) → T (not (is_zero_int (a *ℤ b)))
product_not_zero a b n t = not_zero_test (a *ℤ b) (λ e. test_not_zero b t (no_zero_divisors_ℤ a b n e))

pub canonical_times : (m : Monomial) (c : ℤ) (es : List (Monomial × ℤ)) → ¬ (c ≡ pos 0) → IsCanonical terms es → IsCanonical terms (times_list m c es)
canonical_times m c [] n h = tt
canonical_times m c (e ∷ es) n h =
    canonical_cons terms (m · e.0, c *ℤ e.1) (times_list m c es) (product_not_zero c e.1 n (canonical_value terms e es h)) (below_times m e.0 c es (canonical_below terms e es h)) (canonical_times m c es n (canonical_tail terms e es h))

pub absolutes-times : (m : Monomial) (c : ℤ) (es : List (Monomial × ℤ)) → absolutes (times_list m c es) ≡ times_list m (pos (unsigned_abs c)) (absolutes es)
absolutes-times m c [] = refl
absolutes-times m c (e ∷ es) = ap₂ (λ n xs. (m · e.0, pos n) ∷ xs) (unsigned_abs-mul c e.1) (absolutes-times m c es)

-- each entry's absolute value counts in the whole
pub entry_covered : (es : List (Monomial × ℤ)) (i : ℕ) (x : Monomial × ℤ) → i < length es → x ≡ get_or es i x → IsCovered (term x.0 (pos (unsigned_abs x.1))) (polynomial_of (absolutes es))
entry_covered [] i x h e = absurd (omega arith)
entry_covered (y ∷ ys) zero x h e =
    subst (λ p. IsCovered p (polynomial_of (absolutes (y ∷ ys)))) (sym (ap (λ (z : Monomial × ℤ). term z.0 (pos (unsigned_abs z.1))) e ∙ term_is y.0 (pos (unsigned_abs y.1))))
    (subst (IsCovered (polynomial_of (absolutes (y ∷ [])))) (sym (of-cons terms (y.0, pos (unsigned_abs y.1)) (absolutes ys))) (covered_first (polynomial_of (absolutes (y ∷ []))) (polynomial_of (absolutes ys)) (nonneg_absolutes (y ∷ [])) (nonneg_absolutes ys)))
entry_covered (y ∷ ys) (suc i) x h e =
    covered_trans _ _ _ (entry_covered ys i x (omega arith) e)
    (subst (IsCovered (polynomial_of (absolutes ys))) (sym (of-cons terms (y.0, pos (unsigned_abs y.1)) (absolutes ys))) (covered_second (polynomial_of (absolutes (y ∷ []))) (polynomial_of (absolutes ys)) (nonneg_absolutes (y ∷ [])) (nonneg_absolutes ys)))

get-times : (m : Monomial) (c : ℤ) (es : List (Monomial × ℤ)) (i : ℕ) (x : Monomial × ℤ) → x ≡ get_or es i x → (m · x.0, c *ℤ x.1) ≡ get_or (times_list m c es) i (m · x.0, c *ℤ x.1)
get-times m c [] i x e = refl
get-times m c (y ∷ ys) zero x e = ap (λ (z : Monomial × ℤ). (m · z.0, c *ℤ z.1)) e
get-times m c (y ∷ ys) (suc i) x e = get-times m c ys i x e

pub times_entry_covered : (m : Monomial) (c : ℤ) (es : List (Monomial × ℤ)) (i : ℕ) (x : Monomial × ℤ) → i < length es → x ≡ get_or es i x → IsCovered (term (m · x.0) (pos (unsigned_abs (c *ℤ x.1)))) (polynomial_of (absolutes (times_list m c es)))
times_entry_covered m c es i x h e = entry_covered (times_list m c es) i (m · x.0, c *ℤ x.1) (omega (arith, length-times m c es)) (get-times m c es i x e)

-- ---- a derivative

abbrev pub derived_list : ℕ → List (Monomial × ℤ) → List (Monomial × ℤ)
derived_list v [] = []
derived_list v (e ∷ es) = cond (eqb (exponent e.0 v) 0) (derived_list v es) ((lower v e.0, e.1 *ℤ pos (exponent e.0 v)) ∷ derived_list v es)

derived_listed : (v : ℕ) (es : List (Monomial × ℤ)) → sum_of_entries polynomials (λ m a. term (lower v m) (a *ℤ pos (exponent m v))) es ≡ polynomial_of (derived_list v es)
derived_listed v [] = sym polynomial_of-none
derived_listed v (e ∷ es) = by_exponent (derived_listed v es) (eqb (exponent e.0 v) 0) refl
  where
    rest : WholePolynomial
    rest = polynomial_of (derived_list v es)

    by_exponent : sum_of_entries polynomials (λ m a. term (lower v m) (a *ℤ pos (exponent m v))) es ≡ polynomial_of (derived_list v es) → (t : Bool) → eqb (exponent e.0 v) 0 ≡ t
        → term (lower v e.0) (e.1 *ℤ pos (exponent e.0 v)) +ᴾ sum_of_entries polynomials (λ m a. term (lower v m) (a *ℤ pos (exponent m v))) es ≡ polynomial_of (cond t (derived_list v es) ((lower v e.0, e.1 *ℤ pos (exponent e.0 v)) ∷ derived_list v es))
    by_exponent i true t =
        ap₂ ◌+ᴾ◌ (ap (λ n. term (lower v e.0) (e.1 *ℤ pos n)) (eqb→eq (exponent e.0 v) 0 (subst T (sym t) tt)) ∙ ap (term (lower v e.0)) (*ℤ-zero e.1) ∙ (term_additive terms).on_nil (lower v e.0)) i
        ∙ finite_laws.plus_idl terms (polynomial_of (derived_list v es))
    by_exponent i false t = ap₂ ◌+ᴾ◌ (term_is (lower v e.0) (e.1 *ℤ pos (exponent e.0 v))) i ∙ sym (of-cons terms (lower v e.0, e.1 *ℤ pos (exponent e.0 v)) (derived_list v es))

pub polynomial_of-derived : (v : ℕ) (es : List (Monomial × ℤ)) → polynomial_of (derived_list v es) ≡ partial v (polynomial_of es)
unfolding partial
polynomial_of-derived v es = sym (sum-of terms polynomials (λ m a. term (lower v m) (a *ℤ pos (exponent m v))) (partial_additive v) es ∙ derived_listed v es)

-- where a variable occurs, one less of it is what gives the monomial when multiplied by it
raised : (v : ℕ) (m : Monomial) → 0 < exponent m v → finite.term powers v 1 · lower v m ≡ m
raised v m h = ext powers (finite.term powers v 1 · lower v m) m (λ w.
    value-plus powers (finite.term powers v 1) (lower v m) w ∙ ap₂ (λ a b. a + b) (value-term powers v 1 w) (value-put powers v (exponent m v - 1) m w) ∙ by_key w (eq_by_cmp nat_cmp w v) refl)
  where
    by_key : (w : ℕ) (t : Bool) → eq_by_cmp nat_cmp w v ≡ t → cond t 1 0 + cond t (exponent m v - 1) (exponent m w) ≡ exponent m w
    by_key w true e = let s : exponent m w ≡ exponent m v = ap (exponent m) (finite_proofs.key powers w v e) in omega arith
    by_key w false e = omega arith

monomial_cmp-lower : (v : ℕ) (m n : Monomial) → 0 < exponent m v → 0 < exponent n v → monomial_cmp (lower v m) (lower v n) ≡ monomial_cmp m n
monomial_cmp-lower v m n h k = sym (monomial_cmp-· (finite.term powers v 1) (lower v m) (lower v n)) ∙ ap₂ monomial_cmp (raised v m h) (raised v n k)

occurs : (n : ℕ) → eqb n 0 ≡ false → 0 < n
occurs zero e = absurd (Rattle.std.proofs.Common.true≢false e)
occurs (suc n) e = omega arith

below_derived : (v : ℕ) (m : Monomial) (es : List (Monomial × ℤ)) → 0 < exponent m v → T (below_all monomial_cmp coefficients m es) → T (below_all monomial_cmp coefficients (lower v m) (derived_list v es))
below_derived v m [] h b = tt
below_derived v m (e ∷ es) h b = by_exponent (below_derived v m es h (second (is_lt (monomial_cmp m e.0)) _ b)) (eqb (exponent e.0 v) 0) refl
  where
    by_exponent : T (below_all monomial_cmp coefficients (lower v m) (derived_list v es)) → (t : Bool) → eqb (exponent e.0 v) 0 ≡ t
        → T (below_all monomial_cmp coefficients (lower v m) (cond t (derived_list v es) ((lower v e.0, e.1 *ℤ pos (exponent e.0 v)) ∷ derived_list v es)))
    by_exponent i true t = i
    by_exponent i false t =
        both _ (below_all monomial_cmp coefficients (lower v m) (derived_list v es))
        (subst (λ r. T (is_lt r)) (sym (monomial_cmp-lower v m e.0 h (occurs (exponent e.0 v) t))) (first _ (below_all monomial_cmp coefficients m es) b)) i

pub canonical_derived : (v : ℕ) (es : List (Monomial × ℤ)) → IsCanonical terms es → IsCanonical terms (derived_list v es)
canonical_derived v [] h = tt
canonical_derived v (e ∷ es) h = by_exponent (canonical_derived v es (canonical_tail terms e es h)) (eqb (exponent e.0 v) 0) refl
  where
    by_exponent : IsCanonical terms (derived_list v es) → (t : Bool) → eqb (exponent e.0 v) 0 ≡ t → IsCanonical terms (cond t (derived_list v es) ((lower v e.0, e.1 *ℤ pos (exponent e.0 v)) ∷ derived_list v es))
    by_exponent i true t = i
    by_exponent i false t =
        canonical_cons terms (lower v e.0, e.1 *ℤ pos (exponent e.0 v)) (derived_list v es)
        (subst (λ z. T (not (is_zero_int z))) (*ℤ_comm (pos (exponent e.0 v)) e.1) (product_not_zero (pos (exponent e.0 v)) e.1 (not_zero (exponent e.0 v) (occurs (exponent e.0 v) t)) (canonical_value terms e es h)))
        (below_derived v e.0 es (occurs (exponent e.0 v) t) (canonical_below terms e es h)) i

pub absolutes-derived : (v : ℕ) (es : List (Monomial × ℤ)) → absolutes (derived_list v es) ≡ derived_list v (absolutes es)
absolutes-derived v [] = refl
absolutes-derived v (e ∷ es) = by_exponent (absolutes-derived v es) (eqb (exponent e.0 v) 0)
  where
    by_exponent : absolutes (derived_list v es) ≡ derived_list v (absolutes es) → (t : Bool)
        → absolutes (cond t (derived_list v es) ((lower v e.0, e.1 *ℤ pos (exponent e.0 v)) ∷ derived_list v es)) ≡ cond t (derived_list v (absolutes es)) ((lower v e.0, pos (unsigned_abs e.1) *ℤ pos (exponent e.0 v)) ∷ derived_list v (absolutes es))
    by_exponent i true = i
    by_exponent i false = ap₂ (λ n xs. (lower v e.0, pos n) ∷ xs) (unsigned_abs-mul e.1 (pos (exponent e.0 v))) i
