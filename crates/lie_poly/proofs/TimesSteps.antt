-- How products are told by tallies.
use Rattle.std.proofs.Common.{◌≡◌, ℕ, zero, suc, ◌<◌, ◌≤◌, List, [], ◌∷◌, ◌++◌, length, get_or, reverse, refl, sym, ap, ap₂, ◌∙◌, subst, subst₂, arith, ℤ, pos, ◌*ℤ◌}
use Rattle.std.proofs.lemmas.List.{reverse-reverse}
use Rattle.std.specs.Prelude.{unsigned_abs}
use Rattle.lie_math.specs.Monomial.{Monomial, ◌·◌}
use Rattle.lie_math.specs.Polynomial.{WholePolynomial, polynomial_of, terms, term, ◌+ᴾ◌, ◌*ᴾ◌}
use Rattle.lie_math.specs.PolynomialRing.{+ᴾ-*ᴾ, 0ᴾ-*ᴾ, polynomial_of-none}
use Rattle.lie_math.specs.Limits.{FitsNumber, HasLowExponents, absolutes}
use Rattle.lie_poly.specs.Bulk.{IsBulkOf, AreWithin}
use Rattle.lie_math.proofs.Integer.{no_zero_divisors_ℤ, unsigned_abs_zero}
use Rattle.lie_math.specs.FiniteSum.{IsCanonical}
use Rattle.lie_math.proofs.CanonicalLists.{of-cons, canonical_value, canonical_tail}
use Rattle.lie_math.proofs.Limits.{IsCovered, IsNonNegative, covered_first, covered_second, nonneg_sum, nonneg_none, nonneg_absolutes, absolutes-append, canonical_absolutes, length-absolutes, term_is}
use Rattle.lie_poly.proofs.BulkLists.{bulk_absolutes}
use Rattle.lie_ring.proofs.Limits.{wide_term, high_term}
use Rattle.lie_math.proofs.TermWise.{times_list, length-times, polynomial_of-times, zero_times, canonical_times, absolutes-times, times_entry_covered, test_not_zero}
use Rattle.lie_ring.specs.declared.failures.PastKind.TheVariants.{Coefficient, Exponent, Terms, Order, Unknowns, Width}
use Rattle.lie_ring.specs.declared.failures.PolyFail.{PolyFail}
use Rattle.lie_ring.specs.declared.failures.PolyFail.TheVariants.{Past, NoMemory}
use Rattle.lie_ring.specs.Causes.{IsCause}
use Rattle.lie_ring.specs.Entries.{entries}
use Rattle.lie_poly.specs.declared.tally.Tally.{Tally}
use Rattle.lie_poly.specs.Sorted.{IsSorted}
use Rattle.lie_poly.specs.Failures.{IsTermCause, IsFull}
use Rattle.lie_poly.specs.Tallies.{sums, bulks, Tells}
use Rattle.lie_poly.proofs.TermLists.{length-entries, get-entries}
use Rattle.lie_poly.proofs.TallyLists.{sums-append, bulks-append, length-bulks}
use Rattle.lie_poly.proofs.SumSteps.{cause_covered, not_zero_of_absolute, tells_none, tells_same, lower_half, upper_half, halves_sum, halves_bulk}
use Rattle.lie_poly.proofs.MergeSteps.{within_append}

pub times-append : (m : Monomial) (c : ℤ) (es fs : List (Monomial × ℤ)) → times_list m c (es ++ fs) ≡ times_list m c es ++ times_list m c fs
times-append m c [] fs = refl
times-append m c (e ∷ es) fs = ap (λ gs. (m · e.0, c *ℤ e.1) ∷ gs) (times-append m c es fs)

pub entry_not_zero : (es : List (Monomial × ℤ)) (i : ℕ) (e : Monomial × ℤ) → IsCanonical terms es → i < length es → e ≡ get_or es i e → ¬ (e.1 ≡ pos 0)
entry_not_zero [] i e h l q = absurd (omega arith)
entry_not_zero (x ∷ xs) zero e h l q = λ z. test_not_zero x.1 (canonical_value terms x xs h) (sym (ap (λ (y : Monomial × ℤ). y.1) q) ∙ z)
entry_not_zero (x ∷ xs) (suc i) e h l q = entry_not_zero xs i e (canonical_tail terms x xs h) (omega arith) q

-- the bulk of a product by one term
pub times_bulk : (m : Monomial) (c : ℤ) (es : List (Monomial × ℤ)) → polynomial_of (absolutes (times_list m c es)) ≡ term m (pos (unsigned_abs c)) *ᴾ polynomial_of (absolutes es)
times_bulk m c es = ap polynomial_of (absolutes-times m c es) ∙ polynomial_of-times m (pos (unsigned_abs c)) (absolutes es)

pub nonneg_times : (m : Monomial) (c : ℤ) (es : List (Monomial × ℤ)) → IsNonNegative (term m (pos (unsigned_abs c)) *ᴾ polynomial_of (absolutes es))
nonneg_times m c es = subst IsNonNegative (times_bulk m c es) (nonneg_absolutes (times_list m c es))

pub nonneg_product : (es fs : List (Monomial × ℤ)) → IsNonNegative (polynomial_of (absolutes es) *ᴾ polynomial_of (absolutes fs))
nonneg_product [] fs = subst IsNonNegative (sym (ap (λ p. p *ᴾ polynomial_of (absolutes fs)) polynomial_of-none ∙ 0ᴾ-*ᴾ (polynomial_of (absolutes fs)))) nonneg_none
nonneg_product (e ∷ es) fs =
    subst IsNonNegative
    (sym (ap (λ p. p *ᴾ polynomial_of (absolutes fs)) (of-cons terms (e.0, pos (unsigned_abs e.1)) (absolutes es) ∙ ap (λ p. p +ᴾ polynomial_of (absolutes es)) (sym (term_is e.0 (pos (unsigned_abs e.1))))) ∙ +ᴾ-*ᴾ (term e.0 (pos (unsigned_abs e.1))) (polynomial_of (absolutes es)) (polynomial_of (absolutes fs))))
    (nonneg_sum (term e.0 (pos (unsigned_abs e.1)) *ᴾ polynomial_of (absolutes fs)) (polynomial_of (absolutes es) *ᴾ polynomial_of (absolutes fs)) (nonneg_times e.0 e.1 fs) (nonneg_product es fs))

-- a term that is past makes the whole past
pub term_cause : (fail : PolyFail) (m : Monomial) (z : ℤ) (b : WholePolynomial) → IsCovered (term m (pos (unsigned_abs z))) b → ¬ (z ≡ pos 0) → IsTermCause fail m z → IsCause fail b
term_cause (Past Coefficient) m z b c n h = cause_covered (Past Coefficient) (term m (pos (unsigned_abs z))) b c (wide_term m (pos (unsigned_abs z)) h)
term_cause (Past Exponent) m z b c n h = cause_covered (Past Exponent) (term m (pos (unsigned_abs z))) b c (high_term m (pos (unsigned_abs z)) (λ e. n (unsigned_abs_zero z (ap unsigned_abs e))) h)
term_cause (Past Terms) m z b c n h = absurd h
term_cause (Past Order) m z b c n h = absurd h
term_cause (Past Unknowns) m z b c n h = absurd h
term_cause (Past Width) m z b c n h = absurd h
term_cause NoMemory m z b c n h = tt

pub never_full : (fail : PolyFail) (n : ℕ) (b : WholePolynomial) → n < 1000000 → IsFull fail n → IsCause fail b
never_full (Past Terms) n b l h = absurd (omega arith)
never_full (Past Coefficient) n b l h = absurd h
never_full (Past Exponent) n b l h = absurd h
never_full (Past Order) n b l h = absurd h
never_full (Past Unknowns) n b l h = absurd h
never_full (Past Width) n b l h = absurd h
never_full NoMemory n b l h = tt

module _ {C : Type 0} (value : C → ℤ) where
  -- the products by the first terms are out
  pub record Multiplied (m : Monomial) (c : ℤ) (es : List (Monomial × ℤ)) (out : List (Tally C)) : Type 0 where
    pub sums_are : sums value out ≡ times_list m c es
    pub bulks_are : bulks out ≡ absolutes (times_list m c es)
    pub within : AreWithin (bulks out)

  pub multiplied_start : (m : Monomial) (c : ℤ) → Multiplied m c [] []
  multiplied_start m c = record { sums_are = refl; bulks_are = refl; within = tt }

  pub multiplied_length : (m : Monomial) (c : ℤ) (es : List (Monomial × ℤ)) (out : List (Tally C)) → Multiplied m c es out → length out ≡ length es
  multiplied_length m c es out s = sym (length-bulks value out) ∙ ap length s.bulks_are ∙ length-absolutes (times_list m c es) ∙ length-times m c es

  pub multiplied_more : (m : Monomial) (c : ℤ) (es : List (Monomial × ℤ)) (out new : List (Tally C)) (e : Monomial × ℤ) (t : Tally C) → Multiplied m c es out
      → t.mono ≡ m · e.0 → value t.sum ≡ c *ℤ e.1 → t.bulk ≡ unsigned_abs (c *ℤ e.1) → FitsNumber (c *ℤ e.1) → HasLowExponents (m · e.0) → new ≡ out ++ t ∷ [] → Multiplied m c (es ++ e ∷ []) new
  multiplied_more m c es out new e t s em ev ez fits low p =
      let here : bulks (t ∷ []) ≡ absolutes (times_list m c (e ∷ [])) = ap₂ (λ k n. (k, pos n) ∷ []) em ez in
      record {
        sums_are = ap (sums value) p ∙ sums-append value out (t ∷ []) ∙ ap₂ ◌++◌ s.sums_are (ap₂ (λ k v. (k, v) ∷ []) em ev) ∙ sym (times-append m c es (e ∷ []));
        bulks_are = ap bulks p ∙ bulks-append value out (t ∷ []) ∙ ap₂ ◌++◌ s.bulks_are here ∙ sym (absolutes-append (times_list m c es) (times_list m c (e ∷ []))) ∙ ap absolutes (sym (times-append m c es (e ∷ [])));
        within = subst AreWithin (sym (ap bulks p ∙ bulks-append value out (t ∷ []))) (within_append (bulks out) (bulks (t ∷ [])) s.within (subst AreWithin (sym here) (fits, low, tt)));
      }

  pub multiplied_end : (m : Monomial) (c : ℤ) (es : List (Monomial × ℤ)) (out made : List (Tally C)) → Multiplied m c es out → ¬ (unsigned_abs c ≡ 0) → IsSorted es → made ≡ reverse out → Tells value (reverse made) (term m c *ᴾ polynomial_of es) (term m (pos (unsigned_abs c)) *ᴾ polynomial_of (absolutes es))
  multiplied_end m c es out made s n h e =
      subst (λ ts. Tells value ts (term m c *ᴾ polynomial_of es) (term m (pos (unsigned_abs c)) *ᴾ polynomial_of (absolutes es))) (sym (ap reverse e ∙ reverse-reverse out))
      (record {
        tallied = record {
          ordered = subst (IsCanonical terms) (sym s.bulks_are) (canonical_absolutes (times_list m c es) (canonical_times m c es (not_zero_of_absolute c n) h.ordered));
          bulk = subst₂ IsBulkOf (sym s.sums_are) (sym s.bulks_are) (bulk_absolutes (times_list m c es));
          within = s.within;
          few = let k : length es ≤ 1000000 = h.few in omega (arith, multiplied_length m c es out s);
        };
        sum = ap polynomial_of s.sums_are ∙ polynomial_of-times m c es;
        bulk = ap polynomial_of s.bulks_are ∙ times_bulk m c es;
      })

  pub times_zero : (m : Monomial) (c : ℤ) (es : List (Monomial × ℤ)) → unsigned_abs c ≡ 0 → Tells value [] (term m c *ᴾ polynomial_of es) (term m (pos (unsigned_abs c)) *ᴾ polynomial_of (absolutes es))
  times_zero m c es z =
      tells_same value [] (polynomial_of []) (term m c *ᴾ polynomial_of es) (polynomial_of []) (term m (pos (unsigned_abs c)) *ᴾ polynomial_of (absolutes es))
      (polynomial_of-none ∙ sym (ap (λ k. term m k *ᴾ polynomial_of es) (unsigned_abs_zero c z) ∙ zero_times m (polynomial_of es)))
      (polynomial_of-none ∙ sym (ap (λ k. term m (pos k) *ᴾ polynomial_of (absolutes es)) z ∙ zero_times m (polynomial_of (absolutes es)))) (tells_none value)

  -- the product of a term of the list is past
  pub factor_cause : (fail : PolyFail) (m : Monomial) (c : ℤ) (xs : List (Monomial × C)) (i : ℕ) (x : Monomial × C) → i < length xs → x ≡ get_or xs i x → ¬ (unsigned_abs c ≡ 0) → IsSorted (entries value xs)
      → IsTermCause fail (m · x.0) (c *ℤ value x.1) → IsCause fail (term m (pos (unsigned_abs c)) *ᴾ polynomial_of (absolutes (entries value xs)))
  factor_cause fail m c xs i x l e n h t =
      let inside : i < length (entries value xs) = omega (arith, length-entries value xs) in
      let here = get-entries value xs i x e in
      term_cause fail (m · x.0) (c *ℤ value x.1) (term m (pos (unsigned_abs c)) *ᴾ polynomial_of (absolutes (entries value xs)))
      (subst (IsCovered (term (m · x.0) (pos (unsigned_abs (c *ℤ value x.1))))) (times_bulk m c (entries value xs)) (times_entry_covered m c (entries value xs) i (x.0, value x.1) inside here))
      (λ z. entry_not_zero (entries value xs) i (x.0, value x.1) h.ordered inside here (no_zero_divisors_ℤ c (value x.1) (not_zero_of_absolute c n) z)) t

  -- ---- a product by halves

  module _ (xs : List (Monomial × C)) (i : ℕ) (es : List (Monomial × ℤ)) where
    pub halves_product : polynomial_of (lower_half value xs i) *ᴾ polynomial_of es +ᴾ polynomial_of (upper_half value xs i) *ᴾ polynomial_of es ≡ polynomial_of (entries value xs) *ᴾ polynomial_of es
    halves_product = sym (+ᴾ-*ᴾ (polynomial_of (lower_half value xs i)) (polynomial_of (upper_half value xs i)) (polynomial_of es)) ∙ ap (λ p. p *ᴾ polynomial_of es) (halves_sum value xs i)

    pub halves_product_bulk : polynomial_of (absolutes (lower_half value xs i)) *ᴾ polynomial_of (absolutes es) +ᴾ polynomial_of (absolutes (upper_half value xs i)) *ᴾ polynomial_of (absolutes es) ≡ polynomial_of (absolutes (entries value xs)) *ᴾ polynomial_of (absolutes es)
    halves_product_bulk =
        sym (+ᴾ-*ᴾ (polynomial_of (absolutes (lower_half value xs i))) (polynomial_of (absolutes (upper_half value xs i))) (polynomial_of (absolutes es))) ∙ ap (λ p. p *ᴾ polynomial_of (absolutes es)) (halves_bulk value xs i)

    pub lower_product_covered : IsCovered (polynomial_of (absolutes (lower_half value xs i)) *ᴾ polynomial_of (absolutes es)) (polynomial_of (absolutes (entries value xs)) *ᴾ polynomial_of (absolutes es))
    lower_product_covered =
        subst (IsCovered (polynomial_of (absolutes (lower_half value xs i)) *ᴾ polynomial_of (absolutes es))) halves_product_bulk
        (covered_first (polynomial_of (absolutes (lower_half value xs i)) *ᴾ polynomial_of (absolutes es)) (polynomial_of (absolutes (upper_half value xs i)) *ᴾ polynomial_of (absolutes es)) (nonneg_product (lower_half value xs i) es) (nonneg_product (upper_half value xs i) es))

    pub upper_product_covered : IsCovered (polynomial_of (absolutes (upper_half value xs i)) *ᴾ polynomial_of (absolutes es)) (polynomial_of (absolutes (entries value xs)) *ᴾ polynomial_of (absolutes es))
    upper_product_covered =
        subst (IsCovered (polynomial_of (absolutes (upper_half value xs i)) *ᴾ polynomial_of (absolutes es))) halves_product_bulk
        (covered_second (polynomial_of (absolutes (lower_half value xs i)) *ᴾ polynomial_of (absolutes es)) (polynomial_of (absolutes (upper_half value xs i)) *ᴾ polynomial_of (absolutes es)) (nonneg_product (lower_half value xs i) es) (nonneg_product (upper_half value xs i) es))

  pub product_none : (es : List (Monomial × ℤ)) → Tells value [] (polynomial_of [] *ᴾ polynomial_of es) (polynomial_of [] *ᴾ polynomial_of (absolutes es))
  product_none es =
      tells_same value [] (polynomial_of []) (polynomial_of [] *ᴾ polynomial_of es) (polynomial_of []) (polynomial_of [] *ᴾ polynomial_of (absolutes es))
      (none_times (polynomial_of es)) (none_times (polynomial_of (absolutes es))) (tells_none value)
    where
      none_times : (p : WholePolynomial) → polynomial_of [] ≡ polynomial_of [] *ᴾ p
      none_times p = polynomial_of-none ∙ sym (ap (λ q. q *ᴾ p) polynomial_of-none ∙ 0ᴾ-*ᴾ p)

  -- ---- a product by a list of one term

  pub single_product : (xs : List (Monomial × C)) (x : Monomial × C) (es : List (Monomial × ℤ)) → xs ≡ x ∷ [] → term x.0 (value x.1) *ᴾ polynomial_of es ≡ polynomial_of (entries value xs) *ᴾ polynomial_of es
  single_product xs x es e = ap (λ p. p *ᴾ polynomial_of es) (term_is x.0 (value x.1) ∙ ap (λ ys. polynomial_of (entries value ys)) (sym e))

  pub single_bulk : (xs : List (Monomial × C)) (x : Monomial × C) (es : List (Monomial × ℤ)) → xs ≡ x ∷ [] → term x.0 (pos (unsigned_abs (value x.1))) *ᴾ polynomial_of (absolutes es) ≡ polynomial_of (absolutes (entries value xs)) *ᴾ polynomial_of (absolutes es)
  single_bulk xs x es e = ap (λ p. p *ᴾ polynomial_of (absolutes es)) (term_is x.0 (pos (unsigned_abs (value x.1))) ∙ ap (λ ys. polynomial_of (absolutes (entries value ys))) (sym e))
