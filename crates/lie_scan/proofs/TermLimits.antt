-- Sums of terms with exponents up to 32 and small sums of like ones are within the limits.
use Rattle.std.specs.Prelude.{ℕ, suc, ◌+◌, ◌^◌, ◌≡◌, ◌<◌, ◌≤◌, Bool, true, false, cond, List, [], ◌∷◌, length, ℤ, pos, ◌+ℤ◌, unsigned_abs, refl}
use Rattle.std.specs.FinMap.Entries.{by_order}
use Rattle.std.specs.List.{AllByRecursion as Every}
use Rattle.std.specs.Ordering.{eq_by_cmp}
use borrow.Author.Differences.{ints}
use Rattle.std.proofs.Common.{Ordering, Less, Equal, Greater, sym, ap, subst, ◌∙◌, arith}
use Rattle.lie_math.specs.FiniteSum as finite
use Rattle.lie_math.specs.FiniteSumLaws.{value-of}
use Rattle.lie_math.specs.Integer.{coefficients, is_zero_int}
use Rattle.lie_math.specs.Limits.{IsWithinLimits, absolutes}
use Rattle.lie_math.specs.Monomial.{Monomial, monomial_cmp}
use Rattle.lie_math.specs.Polynomial.{terms, polynomial_of, coefficient}
use Rattle.lie_math.specs.SortedSum.{value_at, normal, put_new, add_at}
use Rattle.lie_math.proofs.Limits.{length-absolutes}
use Rattle.lie_system.specs.Exponents.{HasSmallExponents}
use Rattle.lie_scan.specs.Meaning.{size_of}
use Rattle.lie_scan.proofs.TermLaws.{AreSmall}
use Rattle.lie_system.proofs.Entries.{at_entry}

-- ---- a sum has no more terms than are added
new_length : (b : Bool) (e : Monomial × ℤ) (es : List (Monomial × ℤ)) → length (cond b es (e ∷ es)) ≤ suc (length es)
new_length true e es = omega arith
new_length false e es = omega arith

add_length : (m : Monomial) (z : ℤ) (es : List (Monomial × ℤ)) → length (add_at monomial_cmp coefficients m z es) ≤ suc (length es)
add_length m z [] = new_length (is_zero_int z) (m, z) []
add_length m z (e ∷ es) = go (monomial_cmp m e.0) (add_length m z es)
  where
    go : (r : Ordering) → length (add_at monomial_cmp coefficients m z es) ≤ suc (length es)
        → length (by_order r (put_new monomial_cmp coefficients m z (e ∷ es)) (put_new monomial_cmp coefficients m (coefficients.adder.plus z e.1) es) (e ∷ add_at monomial_cmp coefficients m z es)) ≤ suc (length (e ∷ es))
    go Less h = new_length (is_zero_int z) (m, z) (e ∷ es)
    go Equal h = let k = new_length (is_zero_int (coefficients.adder.plus z e.1)) (m, coefficients.adder.plus z e.1) es in omega arith
    go Greater h = omega arith

normal_length : (es : List (Monomial × ℤ)) → length (normal monomial_cmp coefficients es) ≤ length es
normal_length [] = omega arith
normal_length (e ∷ es) = let h = normal_length es in let k = add_length e.0 e.1 (normal monomial_cmp coefficients es) in omega arith

sum_length : (es : List (Monomial × ℤ)) → length (polynomial_of es).list ≤ length es
unfolding finite.of
sum_length es = normal_length es

-- ---- absolute values
triangle : (a b : ℤ) → unsigned_abs (a +ℤ b) ≤ unsigned_abs a + unsigned_abs b
triangle a b = omega (arith, ints)

pub value_bound : (m : Monomial) (ts : List (Monomial × ℤ)) → unsigned_abs (value_at monomial_cmp coefficients m ts) ≤ size_of m ts
value_bound m [] = omega arith
value_bound m (t ∷ ts) = go (eq_by_cmp monomial_cmp m t.0) (value_bound m ts)
  where
    go : (b : Bool) → unsigned_abs (value_at monomial_cmp coefficients m ts) ≤ size_of m ts → unsigned_abs (cond b t.1 (pos 0) +ℤ value_at monomial_cmp coefficients m ts) ≤ cond b (unsigned_abs t.1) 0 + size_of m ts
    go true h = let k = triangle t.1 (value_at monomial_cmp coefficients m ts) in omega arith
    go false h = let k = triangle (pos 0) (value_at monomial_cmp coefficients m ts) in omega arith

size_absolutes : (m : Monomial) (ts : List (Monomial × ℤ)) → size_of m (absolutes ts) ≡ size_of m ts
size_absolutes m [] = refl
size_absolutes m (t ∷ ts) = ap (λ (n : ℕ). cond (eq_by_cmp monomial_cmp m t.0) (unsigned_abs t.1) 0 + n) (size_absolutes m ts)

abbrev pub HaveSmallExponents : List (Monomial × ℤ) → Type 0
HaveSmallExponents ts = Every (λ (t : Monomial × ℤ). HasSmallExponents t.0) ts

small_absolutes : (ts : List (Monomial × ℤ)) → HaveSmallExponents ts → HaveSmallExponents (absolutes ts)
small_absolutes [] h = tt
small_absolutes (t ∷ ts) h = (h.0, small_absolutes ts h.1)

pub terms_within : (ts : List (Monomial × ℤ)) → AreSmall ts → HaveSmallExponents ts → length ts ≤ 1000000 → IsWithinLimits (polynomial_of (absolutes ts))
terms_within ts small low few = record {
  coefficients = λ m.
      let at : coefficient (polynomial_of (absolutes ts)) m ≡ value_at monomial_cmp coefficients m (absolutes ts) = value-of terms (absolutes ts) m in
      let bound = value_bound m (absolutes ts) in
      let size = size_absolutes m ts in
      let sum = small m in
      subst (λ (z : ℤ). unsigned_abs z < 2 ^ 127) (sym at) (omega arith);
  exponents = λ m apart v.
      let at : HasSmallExponents m = at_entry HasSmallExponents (absolutes ts) (small_absolutes ts low) m (λ z. apart (value-of terms (absolutes ts) m ∙ z)) in
      let most = at v in
      omega arith;
  terms = let l = sum_length (absolutes ts) in let same = length-absolutes ts in omega arith;
}
