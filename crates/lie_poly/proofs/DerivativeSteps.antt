-- How derivatives are made term by term.
use Rattle.std.proofs.Common.{◌≡◌, ℕ, zero, suc, ◌-◌, ◌<◌, ◌≤◌, ◌^◌, List, [], ◌∷◌, ◌++◌, length, get_or, refl, sym, ap, ◌∙◌, subst, arith, Bool, true, false, cond, T, ℤ, pos, ◌*ℤ◌, eqb, eqb→eq}
use Rattle.std.specs.Prelude.{unsigned_abs}
use Rattle.std.specs.Ordering.{nat_cmp, eq_by_cmp}
use Rattle.lie_math.specs.Monomial.{Monomial, exponent, powers}
use Rattle.lie_math.specs.Polynomial.{polynomial_of, term}
use Rattle.lie_math.specs.PartialDerivative.{partial, lower}
use Rattle.lie_math.specs.Limits.{FitsNumber, HasLowExponents, IsWithinLimits, absolutes}
use Rattle.lie_poly.specs.Bulk.{AreWithin}
use Rattle.lie_math.proofs.FiniteSum.{value-put}
use Rattle.lie_math.proofs.Limits.{canonical_absolutes, length-absolutes}
use Rattle.lie_ring.proofs.Limits.{wide_term}
use Rattle.lie_poly.proofs.BulkLists.{limits_of}
use Rattle.lie_math.proofs.TermWise.{derived_list, polynomial_of-derived, canonical_derived, absolutes-derived, entry_covered}
use Rattle.lie_ring.specs.declared.failures.PastKind.TheVariants.{Coefficient, Exponent, Terms, Order, Unknowns, Width}
use Rattle.lie_ring.specs.declared.failures.PolyFail.{PolyFail}
use Rattle.lie_ring.specs.declared.failures.PolyFail.TheVariants.{Past, NoMemory}
use Rattle.lie_ring.specs.Causes.{IsCause}
use Rattle.lie_poly.specs.Sorted.{IsSorted}
use Rattle.lie_poly.specs.Failures.{IsWideNumber}
use Rattle.lie_poly.proofs.SumSteps.{cause_covered}

pub derived-append : (v : ℕ) (es fs : List (Monomial × ℤ)) → derived_list v (es ++ fs) ≡ derived_list v es ++ derived_list v fs
derived-append v [] fs = refl
derived-append v (e ∷ es) fs =
    elim (eqb (exponent e.0 v) 0) as (λ t. derived_list v (es ++ fs) ≡ derived_list v es ++ derived_list v fs → cond t (derived_list v (es ++ fs)) ((lower v e.0, e.1 *ℤ pos (exponent e.0 v)) ∷ derived_list v (es ++ fs)) ≡ cond t (derived_list v es) ((lower v e.0, e.1 *ℤ pos (exponent e.0 v)) ∷ derived_list v es) ++ derived_list v fs) [
      | true ↦ λ i. i
      | false ↦ λ i. ap (λ gs. (lower v e.0, e.1 *ℤ pos (exponent e.0 v)) ∷ gs) i
    ] (derived-append v es fs)

low_lower : (v : ℕ) (m : Monomial) → HasLowExponents m → HasLowExponents (lower v m)
low_lower v m h w = subst (λ n. n ≤ 65535) (sym (value-put powers v (exponent m v - 1) m w)) (by_key (eq_by_cmp nat_cmp w v))
  where
    by_key : (t : Bool) → cond t (exponent m v - 1) (exponent m w) ≤ 65535
    by_key true = let k : exponent m v ≤ 65535 = h v in omega arith
    by_key false = h w

-- each coefficient that comes fits
abbrev pub AreFitting : ℕ → List (Monomial × ℤ) → Type 0
AreFitting v [] = Unit {0}
AreFitting v (e ∷ es) = FitsNumber (e.1 *ℤ pos (exponent e.0 v)) × AreFitting v es

pub fitting_more : (v : ℕ) (es : List (Monomial × ℤ)) (e : Monomial × ℤ) → AreFitting v es → FitsNumber (e.1 *ℤ pos (exponent e.0 v)) → AreFitting v (es ++ e ∷ [])
fitting_more v [] e h k = (k, tt)
fitting_more v (f ∷ es) e h k = (h.0, fitting_more v es e h.1 k)

derived_within : (v : ℕ) (es : List (Monomial × ℤ)) → AreWithin es → AreFitting v es → AreWithin (derived_list v es)
derived_within v [] h k = tt
derived_within v (e ∷ es) h k =
    elim (eqb (exponent e.0 v) 0) as (λ t. AreWithin (cond t (derived_list v es) ((lower v e.0, e.1 *ℤ pos (exponent e.0 v)) ∷ derived_list v es))) [
      | true ↦ derived_within v es h.2 k.1
      | false ↦ (k.0, low_lower v e.0 h.1, derived_within v es h.2 k.1)
    ]

derived_fewer : (v : ℕ) (es : List (Monomial × ℤ)) → length (derived_list v es) ≤ length es
derived_fewer v [] = omega arith
derived_fewer v (e ∷ es) = by_test (derived_fewer v es) (eqb (exponent e.0 v) 0)
  where
    by_test : length (derived_list v es) ≤ length es → (t : Bool) → length (cond t (derived_list v es) ((lower v e.0, e.1 *ℤ pos (exponent e.0 v)) ∷ derived_list v es)) ≤ suc (length es)
    by_test h true = omega arith
    by_test h false = omega arith

pub derived_sorted : (v : ℕ) (es : List (Monomial × ℤ)) → IsSorted es → AreFitting v es → IsSorted (derived_list v es)
derived_sorted v es h k = record {
  ordered = canonical_derived v es h.ordered;
  within = derived_within v es h.within k;
  few = let n : length es ≤ 1000000 = h.few in omega (arith, derived_fewer v es);
}

-- a derivative is in the list of derivatives
derived_at : (v : ℕ) (es : List (Monomial × ℤ)) (i : ℕ) (e : Monomial × ℤ) → i < length es → e ≡ get_or es i e → eqb (exponent e.0 v) 0 ≡ false
    → (j : ℕ) × (j < length (derived_list v es)) × ((lower v e.0, e.1 *ℤ pos (exponent e.0 v)) ≡ get_or (derived_list v es) j (lower v e.0, e.1 *ℤ pos (exponent e.0 v)))
derived_at v [] i e l q t = absurd (omega arith)
derived_at v (x ∷ xs) zero e l q t = subst (λ (y : Monomial × ℤ). (j : ℕ) × (j < length (derived_list v (y ∷ xs))) × ((lower v e.0, e.1 *ℤ pos (exponent e.0 v)) ≡ get_or (derived_list v (y ∷ xs)) j (lower v e.0, e.1 *ℤ pos (exponent e.0 v)))) q (by_test (eqb (exponent e.0 v) 0) t)
  where
    by_test : (s : Bool) → s ≡ false → (j : ℕ) × (j < length (cond s (derived_list v xs) ((lower v e.0, e.1 *ℤ pos (exponent e.0 v)) ∷ derived_list v xs))) × ((lower v e.0, e.1 *ℤ pos (exponent e.0 v)) ≡ get_or (cond s (derived_list v xs) ((lower v e.0, e.1 *ℤ pos (exponent e.0 v)) ∷ derived_list v xs)) j (lower v e.0, e.1 *ℤ pos (exponent e.0 v)))
    by_test true f = absurd (cc)
    by_test false f = (0, omega arith, refl)
derived_at v (x ∷ xs) (suc i) e l q t = by_test (derived_at v xs i e (omega arith) q t) (eqb (exponent x.0 v) 0)
  where
    by_test : ((j : ℕ) × (j < length (derived_list v xs)) × ((lower v e.0, e.1 *ℤ pos (exponent e.0 v)) ≡ get_or (derived_list v xs) j (lower v e.0, e.1 *ℤ pos (exponent e.0 v)))) → (s : Bool)
        → (j : ℕ) × (j < length (cond s (derived_list v xs) ((lower v x.0, x.1 *ℤ pos (exponent x.0 v)) ∷ derived_list v xs))) × ((lower v e.0, e.1 *ℤ pos (exponent e.0 v)) ≡ get_or (cond s (derived_list v xs) ((lower v x.0, x.1 *ℤ pos (exponent x.0 v)) ∷ derived_list v xs)) j (lower v e.0, e.1 *ℤ pos (exponent e.0 v)))
    by_test r true = r
    by_test r false = (suc r.0, (let h : r.0 < length (derived_list v xs) = r.1 in omega arith), r.2)

-- a wide derivative makes the whole past
pub derivative_cause : (fail : PolyFail) (v : ℕ) (es : List (Monomial × ℤ)) (i : ℕ) (e : Monomial × ℤ) → i < length es → e ≡ get_or es i e → IsWideNumber fail (e.1 *ℤ pos (exponent e.0 v)) → IsCause fail (polynomial_of (absolutes (derived_list v es)))
derivative_cause (Past Coefficient) v es i e l q h = by_exponent (eqb (exponent e.0 v) 0) refl
  where
    nothing : (n : ℕ) → n ≡ 0 → 2 ^ 127 ≤ unsigned_abs (e.1 *ℤ pos n) → ⊥
    nothing n z h = let k : unsigned_abs (e.1 *ℤ pos n) ≡ 0 = ap (λ j. unsigned_abs (e.1 *ℤ pos j)) z ∙ ap unsigned_abs (lib.IntN.*ℤ-zero e.1) in omega arith

    by_exponent : (t : Bool) → eqb (exponent e.0 v) 0 ≡ t → IsCause (Past Coefficient) (polynomial_of (absolutes (derived_list v es)))
    by_exponent true f = absurd (nothing (exponent e.0 v) (eqb→eq (exponent e.0 v) 0 (subst T (sym f) tt)) h)
    by_exponent false f =
        let place = derived_at v es i e l q f in
        cause_covered (Past Coefficient) (term (lower v e.0) (pos (unsigned_abs (e.1 *ℤ pos (exponent e.0 v))))) (polynomial_of (absolutes (derived_list v es)))
        (entry_covered (derived_list v es) place.0 (lower v e.0, e.1 *ℤ pos (exponent e.0 v)) place.1 place.2)
        (wide_term (lower v e.0) (pos (unsigned_abs (e.1 *ℤ pos (exponent e.0 v)))) h)
derivative_cause (Past Exponent) v es i e l q h = absurd h
derivative_cause (Past Terms) v es i e l q h = absurd h
derivative_cause (Past Order) v es i e l q h = absurd h
derivative_cause (Past Unknowns) v es i e l q h = absurd h
derivative_cause (Past Width) v es i e l q h = absurd h
derivative_cause NoMemory v es i e l q h = tt

pub derived_one : (v : ℕ) (m : Monomial) (z : ℤ) → ¬ (exponent m v ≡ 0) → derived_list v ((m, z) ∷ []) ≡ (lower v m, z *ℤ pos (exponent m v)) ∷ []
derived_one v m z n = by_test (eqb (exponent m v) 0) refl
  where
    by_test : (t : Bool) → eqb (exponent m v) 0 ≡ t → cond {A = List (Monomial × ℤ)} t [] ((lower v m, z *ℤ pos (exponent m v)) ∷ []) ≡ (lower v m, z *ℤ pos (exponent m v)) ∷ []
    by_test true f = absurd (n (eqb→eq (exponent m v) 0 (subst T (sym f) tt)))
    by_test false f = refl

-- the bulk of a derivative
pub derived_bulk : (v : ℕ) (es : List (Monomial × ℤ)) → polynomial_of (absolutes (derived_list v es)) ≡ partial v (polynomial_of (absolutes es))
derived_bulk v es = ap polynomial_of (absolutes-derived v es) ∙ polynomial_of-derived v (absolutes es)

pub within_absolutes : (es : List (Monomial × ℤ)) → AreWithin es → AreWithin (absolutes es)
within_absolutes [] h = tt
within_absolutes (e ∷ es) h = (h.0, h.1, within_absolutes es h.2)

-- a sorted list's bulk is within the limits
pub sorted_bulk : (es : List (Monomial × ℤ)) → IsSorted es → IsWithinLimits (polynomial_of (absolutes es))
sorted_bulk es h = limits_of (absolutes es) (canonical_absolutes es h.ordered) (within_absolutes es h.within) (let n : length es ≤ 1000000 = h.few in omega (arith, length-absolutes es))
