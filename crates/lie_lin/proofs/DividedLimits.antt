-- What divides a coefficient that stands within the limits leaves one that does.
use Rattle.std.specs.Prelude.{◌≡◌, ℕ, zero, suc, ◌+◌, ◌*◌, ◌<◌, ◌^◌, not, T, List, [], ◌∷◌, length, ℤ, pos, ◌*ℤ◌, unsigned_abs}
use Rattle.std.specs.List.{AllByRecursion as Every}
use Rattle.std.proofs.Common.{refl, sym, ap, subst, ◌∙◌, arith, is_lt}
use borrow.Author.Differences.{ints}
use Rattle.std.proofs.lemmas.Int.{unsigned_abs-mul}
use Rattle.lie_math.specs.SortedSum.{below_all}
use Rattle.lie_math.specs.Canonical.{both, first, second}
use Rattle.lie_math.specs.Integer.{coefficients, is_zero_int, int_nil}
use Rattle.lie_math.specs.Monomial.{Monomial, monomial_cmp, ◌·◌}
use Rattle.lie_math.specs.Polynomial.{WholePolynomial, terms, polynomial_of}
use Rattle.lie_math.specs.Limits.{FitsNumber, HasLowExponents, IsWithinLimits, absolutes}
use Rattle.lie_poly.specs.Bulk.{AreWithin}
use Rattle.lie_math.proofs.FiniteSum.{entries_of}
use Rattle.lie_math.proofs.Integer.{unsigned_abs_zero}
use Rattle.lie_math.proofs.Limits.{by_test, canonical_absolutes, length-absolutes}
use Rattle.lie_poly.proofs.BulkLists.{limits_of}
use Rattle.lie_math.specs.FiniteSum.{IsCanonical}
use Rattle.lie_math.proofs.CanonicalLists.{canonical_value, canonical_below, canonical_tail, canonical_cons}
use Rattle.lie_math.proofs.Monomial.{exponent-·}
use Rattle.lie_math.proofs.PrintOrder.{monomial_cmp-·}
use Rattle.lie_math.proofs.TermWise.{times_list, length-times}
use Rattle.lie_ring.specs.Causes.{IsCause}
use Rattle.lie_ring.specs.Entries.{entries}
use Rattle.lie_ring.specs.declared.failures.PolyFail.{PolyFail}
use Rattle.lie_poly.specs.Failures.{IsStarved}
use Rattle.lie_jet.proofs.Absolutes.{within_starved}
use Rattle.lie_jet.proofs.TotalParts.{entries_same}

module _ (m : Monomial) (a : ℤ) where
  below_factor : (n : Monomial) (es : List (Monomial × ℤ)) → T (below_all monomial_cmp coefficients (m · n) (times_list m a es)) → T (below_all monomial_cmp coefficients n es)
  below_factor n [] h = tt
  below_factor n (e ∷ es) h =
      both (is_lt (monomial_cmp n e.0)) (below_all monomial_cmp coefficients n es) (subst (λ r. T (is_lt r)) (monomial_cmp-· m n e.0) (first (is_lt (monomial_cmp (m · n) (m · e.0))) (below_all monomial_cmp coefficients (m · n) (times_list m a es)) h))
      (below_factor n es (second (is_lt (monomial_cmp (m · n) (m · e.0))) (below_all monomial_cmp coefficients (m · n) (times_list m a es)) h))

  not_zero : (b : ℤ) → T (not (is_zero_int (a *ℤ b))) → T (not (is_zero_int b))
  not_zero b h = by_test (is_zero_int b) (λ e. subst (λ z. T (not (is_zero_int z))) (ap (λ z. a *ℤ z) (int_nil b e) ∙ nothing a) h)
    where
      nothing : (a : ℤ) → a *ℤ pos 0 ≡ pos 0
      nothing a = omega (arith, ints)

  canonical_factor : (es : List (Monomial × ℤ)) → IsCanonical terms (times_list m a es) → IsCanonical terms es
  canonical_factor [] h = tt
  canonical_factor (e ∷ es) h =
      canonical_cons terms e es (not_zero e.1 (canonical_value terms (m · e.0, a *ℤ e.1) (times_list m a es) h)) (below_factor e.0 es (canonical_below terms (m · e.0, a *ℤ e.1) (times_list m a es) h))
      (canonical_factor es (canonical_tail terms (m · e.0, a *ℤ e.1) (times_list m a es) h))

  module _ (apart : ¬ (a ≡ pos 0)) where
    number_fits : (b : ℤ) → FitsNumber (a *ℤ b) → unsigned_abs b < 2 ^ 127
    number_fits b h = go (unsigned_abs a) (unsigned_abs b) (sym (unsigned_abs-mul a b)) (λ e. apart (unsigned_abs_zero a e))
      where
        go : (x y : ℕ) → x * y ≡ unsigned_abs (a *ℤ b) → ¬ (x ≡ 0) → y < 2 ^ 127
        go zero y e n = absurd (n refl)
        go (suc x) y e n = let k : y + x * y ≡ unsigned_abs (a *ℤ b) = more x y ∙ e in let l : unsigned_abs (a *ℤ b) < 2 ^ 127 = h in omega arith
          where
            more : (x y : ℕ) → y + x * y ≡ suc x * y
            more x y = omega arith

    within_factor : (es : List (Monomial × ℤ)) → Every (λ (e : Monomial × ℤ). FitsNumber e.1 × HasLowExponents e.0) (times_list m a es) → AreWithin (absolutes es)
    within_factor [] h = tt
    within_factor (e ∷ es) h = (number_fits e.1 h.0.0, (λ v. let s = exponent-· m e.0 v in let k = h.0.1 v in omega arith), within_factor es h.1)

    factor_within : (es : List (Monomial × ℤ)) (P : WholePolynomial) → IsWithinLimits P → times_list m a es ≡ P.list → IsWithinLimits (polynomial_of (absolutes es))
    factor_within es P h e =
        limits_of (absolutes es) (canonical_absolutes es (canonical_factor es (subst (IsCanonical terms) (sym e) P.canonical)))
        (within_factor es (subst (Every (λ (e : Monomial × ℤ). FitsNumber e.1 × HasLowExponents e.0)) (sym e) (entries_of terms P (λ e. FitsNumber e.1 × HasLowExponents e.0) (λ e is some. (subst FitsNumber is (h.coefficients e.0), h.exponents e.0 (λ z. some (sym is ∙ z)))))))
        (let x = length-absolutes es in let y = length-times m a es in let z = ap length e in let t = h.terms in omega arith)

pub divided_starved : (m : Monomial) (a : ℤ) → ¬ (a ≡ pos 0) → (slice out : List (Monomial × ℤ)) (P : WholePolynomial) → IsWithinLimits P → slice ≡ out → times_list m a out ≡ P.list → (fail : PolyFail) → IsCause fail (polynomial_of (absolutes (entries (λ z. z) slice))) → IsStarved fail
divided_starved m a apart slice out P h s e fail c =
    within_starved fail (polynomial_of (absolutes out)) (factor_within m a apart out P h e) (subst (λ es. IsCause fail (polynomial_of (absolutes es))) (entries_same slice ∙ s) c)
