-- Lists of terms that bound others, and lists of terms within the limits.
use Rattle.std.specs.Prelude.{◌≡◌, ◌<◌, ◌≤◌, ◌^◌, Bool, true, false, cond, List, [], ◌∷◌, length, ℤ, pos, ◌+ℤ◌, unsigned_abs}
use Rattle.std.proofs.Common.{refl, sym, ap, subst, ◌∙◌, arith, lit<}
use Rattle.std.specs.Ordering.{eq_by_cmp}
use borrow.Author.Differences.{ints}
use Rattle.lie_math.specs.Canonical.{value_at-tail}
use Rattle.lie_math.specs.FiniteSumLaws.{value-of}
use Rattle.lie_math.specs.FiniteSumLaws as finite_laws
use Rattle.lie_math.proofs.FiniteSum as finite_proofs
use Rattle.lie_math.specs.Monomial.{Monomial, monomial_cmp}
use Rattle.lie_math.specs.MonomialOrder.{monomial_cmp_total, monomial_cmp-IsAntisymmetric}
use Rattle.lie_math.specs.Polynomial.{coefficient, terms, polynomial_of}
use Rattle.lie_math.specs.Integer.{coefficients}
use Rattle.lie_math.specs.Limits.{HasLowExponents, IsWithinLimits, absolutes}
use Rattle.lie_math.specs.FiniteSum.{IsCanonical}
use Rattle.lie_math.proofs.CanonicalLists.{canonical_below, canonical_tail}
use Rattle.lie_math.proofs.Limits.{at, IsCovered, IsNonNegative}
use Rattle.lie_poly.specs.Bulk.{IsBulkOf, AreWithin}

-- ---- lists and their bulk

-- the value at a monomial is covered, and not negative
pub record Bounds (a b : ℤ) : Type 0 where
  pub covered : unsigned_abs a ≤ unsigned_abs b
  pub plain : b ≡ pos (unsigned_abs b)

one_more : (t : Bool) (x y a b : ℤ) → Bounds x y → Bounds a b → Bounds (cond t x (pos 0) +ℤ a) (cond t y (pos 0) +ℤ b)
one_more true x y a b h k = record {
  covered = let p = h.covered in let q = h.plain in let r = k.covered in let s = k.plain in omega (arith, ints);
  plain = let q = h.plain in let s = k.plain in omega (arith, ints);
}
one_more false x y a b h k = record {
  covered = let r = k.covered in let s = k.plain in omega (arith, ints);
  plain = let s = k.plain in omega (arith, ints);
}

pub bulk_at : (xs ys : List (Monomial × ℤ)) (m : Monomial) → IsBulkOf xs ys → Bounds (at m xs) (at m ys)
bulk_at [] [] m h = record { covered = omega arith; plain = refl }
bulk_at [] (y ∷ ys) m h = absurd h
bulk_at (x ∷ xs) [] m h = absurd h
bulk_at (x ∷ xs) (y ∷ ys) m h =
    subst (λ k. Bounds (cond (eq_by_cmp monomial_cmp m k) x.1 (pos 0) +ℤ at m xs) (at m (y ∷ ys))) (sym h.0)
    (one_more (eq_by_cmp monomial_cmp m y.0) x.1 y.1 (at m xs) (at m ys) (record { covered = h.1; plain = h.2 }) (bulk_at xs ys m h.3))

pub bulk_covers : (xs ys : List (Monomial × ℤ)) → IsBulkOf xs ys → IsCovered (polynomial_of xs) (polynomial_of ys)
bulk_covers xs ys h = record { at_most = λ m. subst (λ z. unsigned_abs (coefficient (polynomial_of xs) m) ≤ unsigned_abs z) (sym (value-of terms ys m)) (subst (λ z. unsigned_abs z ≤ unsigned_abs (at m ys)) (sym (value-of terms xs m)) (bulk_at xs ys m h).covered) }

pub bulk_nonneg : (xs ys : List (Monomial × ℤ)) → IsBulkOf xs ys → IsNonNegative (polynomial_of ys)
bulk_nonneg xs ys h = record { plain = λ m. subst (λ z. z ≡ pos (unsigned_abs z)) (sym (value-of terms ys m)) (bulk_at xs ys m h).plain }

pub bulk_absolutes : (es : List (Monomial × ℤ)) → IsBulkOf es (absolutes es)
bulk_absolutes [] = tt
bulk_absolutes (e ∷ es) = (refl, (let h : unsigned_abs e.1 ≤ unsigned_abs e.1 = omega arith in h), refl, bulk_absolutes es)

-- ---- limits of a list

at_tail : (m : Monomial) (e : Monomial × ℤ) (es : List (Monomial × ℤ)) → IsCanonical terms (e ∷ es) → at m es ≡ cond (eq_by_cmp monomial_cmp m e.0) (pos 0) (at m (e ∷ es))
at_tail m e es h = value_at-tail monomial_cmp coefficients monomial_cmp_total monomial_cmp-IsAntisymmetric m e es (canonical_below terms e es h)

fits_at : (es : List (Monomial × ℤ)) (m : Monomial) → IsCanonical terms es → AreWithin es → unsigned_abs (at m es) < 2 ^ 127
fits_at [] m h w = lit< tt
fits_at (e ∷ es) m h w = by_key (eq_by_cmp monomial_cmp m e.0) (at_tail m e es h) (fits_at es m (canonical_tail terms e es h) w.2)
  where
    by_key : (t : Bool) → at m es ≡ cond t (pos 0) (cond t e.1 (pos 0) +ℤ at m es) → unsigned_abs (at m es) < 2 ^ 127 → unsigned_abs (cond t e.1 (pos 0) +ℤ at m es) < 2 ^ 127
    by_key true f r = subst (λ z. unsigned_abs z < 2 ^ 127) (sym (ap (λ z. e.1 +ℤ z) f ∙ lib.IntN.+ℤ_idr e.1)) w.0
    by_key false f r = subst (λ z. unsigned_abs z < 2 ^ 127) (sym (lib.IntN.+ℤ_idl (at m es))) r

low_at : (es : List (Monomial × ℤ)) (m : Monomial) → AreWithin es → ¬ (at m es ≡ pos 0) → HasLowExponents m
low_at [] m w n = absurd (n refl)
low_at (e ∷ es) m w n = by_key (λ f. low_at es m w.2 f) (eq_by_cmp monomial_cmp m e.0) refl
  where
    by_key : (¬ (at m es ≡ pos 0) → HasLowExponents m) → (t : Bool) → eq_by_cmp monomial_cmp m e.0 ≡ t → HasLowExponents m
    by_key rest true f = subst HasLowExponents (sym (finite_proofs.key terms m e.0 f)) w.1
    by_key rest false f = rest (λ z. n (ap (λ t. cond t e.1 (pos 0) +ℤ at m es) f ∙ lib.IntN.+ℤ_idl (at m es) ∙ z))

pub limits_of : (es : List (Monomial × ℤ)) → IsCanonical terms es → AreWithin es → length es ≤ 1000000 → IsWithinLimits (polynomial_of es)
limits_of es h w n = record {
  coefficients = λ m. subst (λ z. unsigned_abs z < 2 ^ 127) (sym (value-of terms es m)) (fits_at es m h w);
  exponents = λ m o. low_at es m w (λ z. o (value-of terms es m ∙ z));
  terms = subst (λ xs. length xs ≤ 1000000) (sym (finite_laws.list-of terms es h)) n;
}
