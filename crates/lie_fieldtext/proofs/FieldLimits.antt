-- The parts of the field of a short text are within the limits, and so are parts divided by a number.
use Rattle.std.specs.Prelude.{ℕ, zero, suc, ◌+◌, ◌*◌, ◌/◌, ◌^◌, ◌≡◌, ◌<◌, ◌≤◌, ◌==◌, ◌&&◌, Bool, true, false, cond, List, [], ◌∷◌, length, ℤ, pos, ◌*ℤ◌, unsigned_abs, if◌then◌else◌, refl}
use Rattle.std.specs.BTreeMap.{BTreeMap}
use Rattle.std.specs.Global.{Vec}
use Rattle.std.specs.List.{AllByRecursion as Every}
use Rattle.std.specs.Ordering.{eq_by_cmp}
use Rattle.std.proofs.Common.{sym, ap₂, subst, arith}
use Rattle.std.proofs.lemmas.Int.{unsigned_abs-mul}
use Rattle.lie_math.specs.Limits.{IsWithinLimits, absolutes, absolute}
use Rattle.lie_math.specs.Monomial.{Monomial, monomial_cmp}
use Rattle.lie_math.specs.Polynomial.{WholePolynomial, polynomial_of, coefficient}
use Rattle.lie_math.proofs.Limits.{IsCovered, zero_covered, length_covered}
use Rattle.lie_poly.specs.Bulk.{IsBulkOf}
use Rattle.lie_poly.proofs.BulkLists.{bulk_covers}
use Rattle.lie_jet.proofs.Absolutes.{within_absolute}
use Rattle.lie_fieldtext.specs.declared.field_term.FieldTerm.{FieldTerm}
use Rattle.lie_system.specs.Exponents.{HasSmallExponents}
use Rattle.lie_scan.specs.Meaning.{size_of}
use Rattle.lie_fieldtext.specs.FieldMeaning.{amount_over, size_over, terms_over}
use Rattle.lie_fieldtext.specs.FieldAnswers.{AreSmallOver, AreGathered, ArePartsWithin, times_entries}
use Rattle.lie_scan.proofs.TermLimits.{HaveSmallExponents, terms_within}

-- ---- the parts of terms
size_at : (n s : ℕ) (m : Monomial) (ts : List FieldTerm) → size_of m (terms_over n s ts) ≡ size_over n s m ts
size_at n s m [] = refl
size_at n s m (t ∷ ts) = go (t.place == s) (size_at n s m ts)
  where
    go : (b : Bool) → size_of m (terms_over n s ts) ≡ size_over n s m ts
        → size_of m (if b then (t.monomial, t.number *ℤ pos (n / t.over)) ∷ terms_over n s ts else terms_over n s ts) ≡ cond (b && eq_by_cmp monomial_cmp m t.monomial) (amount_over n t) 0 + size_over n s m ts
    go true h = ap₂ (λ (k l : ℕ). cond (eq_by_cmp monomial_cmp m t.monomial) k 0 + l) (unsigned_abs-mul t.number (pos (n / t.over))) h
    go false h = omega arith

small_at : (n s : ℕ) (ts : List FieldTerm) → Every (λ (t : FieldTerm). HasSmallExponents t.monomial) ts → HaveSmallExponents (terms_over n s ts)
small_at n s [] h = tt
small_at n s (t ∷ ts) h = go (t.place == s) (small_at n s ts h.1)
  where
    go : (b : Bool) → HaveSmallExponents (terms_over n s ts) → HaveSmallExponents (if b then (t.monomial, t.number *ℤ pos (n / t.over)) ∷ terms_over n s ts else terms_over n s ts)
    go true k = (h.0, k)
    go false k = k

few_at : (n s : ℕ) (ts : List FieldTerm) → length (terms_over n s ts) ≤ length ts
few_at n s [] = omega arith
few_at n s (t ∷ ts) = go (t.place == s) (few_at n s ts)
  where
    go : (b : Bool) → length (terms_over n s ts) ≤ length ts → length (if b then (t.monomial, t.number *ℤ pos (n / t.over)) ∷ terms_over n s ts else terms_over n s ts) ≤ suc (length ts)
    go true h = omega arith
    go false h = omega arith

pub parts_within : (ts : List FieldTerm) (n : ℕ) (sizes : BTreeMap (Vec (ℕ × ℕ)) ℕ) → AreGathered ts n sizes → Every (λ (t : FieldTerm). HasSmallExponents t.monomial) ts → length ts ≤ 1000000 → ArePartsWithin n ts
parts_within ts n sizes h low few s =
    let small : AreSmallOver n ts = subst (λ k. AreSmallOver k ts) (sym h.common) h.within.sizes in
    terms_within (terms_over n s ts) (λ m. (let size = size_at n s m ts in let sum = small s m in omega arith)) (small_at n s ts low) (let k = few_at n s ts in omega arith)

-- ---- a part divided by a number
multiple_no_less : (g : ℕ) (z : ℤ) → 1 ≤ g → unsigned_abs z ≤ unsigned_abs (pos g *ℤ z)
multiple_no_less g z some = subst (λ n. unsigned_abs z ≤ n) (sym (unsigned_abs-mul (pos g) z)) (go g (unsigned_abs z) some)
  where
    go : (k n : ℕ) → 1 ≤ k → n ≤ k * n
    go zero n some = absurd (omega arith)
    go (suc k) n some = let e : suc k * n ≡ n + k * n = omega arith in omega arith

multiple_bulk : (g : ℕ) → 1 ≤ g → (es : List (Monomial × ℤ)) → IsBulkOf (absolutes es) (absolutes (times_entries g es))
multiple_bulk g some [] = tt
multiple_bulk g some (e ∷ es) = (refl, multiple_no_less g e.1 some, refl, multiple_bulk g some es)

within_covered : (p b : WholePolynomial) → IsCovered p b → IsWithinLimits b → IsWithinLimits p
within_covered p b c w = record {
  coefficients = λ m. let h : unsigned_abs (coefficient p m) ≤ unsigned_abs (coefficient b m) = c.at_most m in let k : unsigned_abs (coefficient b m) < 2 ^ 127 = w.coefficients m in omega arith;
  exponents = λ m o. w.exponents m (λ e. o (zero_covered (coefficient p m) (coefficient b m) (c.at_most m) e));
  terms = let h : length p.list ≤ length b.list = length_covered p b c in let k : length b.list ≤ 1000000 = w.terms in omega arith;
}

pub divided_within : (g : ℕ) (es : List (Monomial × ℤ)) (p : WholePolynomial) → 1 ≤ g → times_entries g es ≡ p.list → IsWithinLimits p → IsWithinLimits (polynomial_of (absolutes es))
unfolding absolute
divided_within g es p some is within =
    within_covered (polynomial_of (absolutes es)) (absolute p)
    (subst (λ (fs : List (Monomial × ℤ)). IsCovered (polynomial_of (absolutes es)) (polynomial_of (absolutes fs))) is (bulk_covers (absolutes es) (absolutes (times_entries g es)) (multiple_bulk g some es)))
    (within_absolute p within)
