-- Polynomials that cover others: no coefficient of the other is greater in absolute value. What another covers is within the limits where that is.
use Rattle.std.specs.Prelude.{◌≡◌, ℕ, suc, ◌+◌, ◌≤◌, Bool, true, false, cond, not, T, List, [], ◌∷◌, ◌++◌, length, ℤ, pos, negsuc, ◌+ℤ◌, unsigned_abs}
use Rattle.std.proofs.Common.{refl, sym, ap, subst, ◌∙◌, arith, Ordering, Less, Equal, Greater, is_lt, is_eq, eqb, eqb→eq}
use Rattle.std.specs.Ordering.{eq_by_cmp, ordering_reverse}
use Rattle.std.specs.Cmp.{tied_itself}
use borrow.Author.Differences.{ints}
use Rattle.lie_math.specs.SortedSum.{value_at, below_all}
use Rattle.lie_math.specs.Canonical.{value_at-head, value_at-tail, value_at-below, below_less, both, first, second}
use Rattle.lie_math.specs.FiniteSum.{Shape, IsCanonical}
use Rattle.lie_math.specs.FiniteSumLaws.{value-of, value-plus, value-none, plus_idl}
use Rattle.lie_math.specs.FiniteSum as finite
use Rattle.lie_math.specs.FiniteSumLaws as finite_laws
use Rattle.lie_math.proofs.FiniteSum as finite_proofs
use Rattle.lie_math.proofs.Integer.{unsigned_abs_zero}
use Rattle.lie_math.specs.Monomial.{Monomial, monomial_cmp, unit}
use Rattle.lie_math.specs.MonomialOrder.{monomial_cmp_total}
use Rattle.lie_math.specs.Polynomial.{WholePolynomial, coefficient, terms, term, constant, polynomial_of, 0ᴾ, ◌+ᴾ◌}
use Rattle.lie_math.specs.Integer.{coefficients, is_zero_int}
use Rattle.lie_math.specs.Limits.{absolutes, absolute}
use Rattle.lie_math.proofs.CanonicalLists.{canonical_value, canonical_below, canonical_tail, canonical_cons}

-- the coefficient of a list of terms
abbrev pub at : Monomial → List (Monomial × ℤ) → ℤ
at m es = value_at monomial_cmp coefficients m es

-- ---- a canonical list with no fewer keys is no shorter

module _ {K A : Type 0} (S : Shape K A) where
  abbrev valued : K → List (K × A) → A
  valued k es = value_at S.order S.values k es

  -- each key of the first list is a key of the second
  abbrev pub KeysWithin : List (K × A) → List (K × A) → Type 0
  KeysWithin xs ys = (k : K) → valued k ys ≡ S.values.adder.nil → valued k xs ≡ S.values.adder.nil

  not_nil : (a : A) → T (not (S.values.is_nil a)) → a ≡ S.values.adder.nil → ⊥
  not_nil a h e = subst (λ b. T (not b)) (ap S.values.is_nil e ∙ S.values.is_nil_nil) h

  head_at : (x : K × A) (xs : List (K × A)) → IsCanonical S (x ∷ xs) → valued x.0 (x ∷ xs) ≡ x.1
  head_at x xs h = value_at-head S.order S.values S.total S.same x xs (canonical_below S x xs h)

  tail_at : (x : K × A) (xs : List (K × A)) (k : K) → IsCanonical S (x ∷ xs) → valued k xs ≡ cond (eq_by_cmp S.order k x.0) S.values.adder.nil (valued k (x ∷ xs))
  tail_at x xs k h = value_at-tail S.order S.values S.total S.same k x xs (canonical_below S x xs h)

  is_below : (k : K) (y : K × A) (ys : List (K × A)) → S.order k y.0 ≡ Less → IsCanonical S (y ∷ ys) → valued k (y ∷ ys) ≡ S.values.adder.nil
  is_below k y ys p h =
      value_at-below S.order S.values S.total S.same k (y ∷ ys) (both _ (below_all S.order S.values k ys) (subst (λ r. T (is_lt r)) (sym p) tt) (below_less S.order S.values S.total S.same k y.0 ys p (canonical_below S y ys h)))

  missing : (x : K × A) (xs ys : List (K × A)) → IsCanonical S (x ∷ xs) → KeysWithin (x ∷ xs) ys → valued x.0 ys ≡ S.values.adder.nil → ⊥
  missing x xs ys h w e = not_nil x.1 (canonical_value S x xs h) (sym (head_at x xs h) ∙ w x.0 e)

  tested : {P : Type 0} (t : Bool) → (t ≡ true → P) → (t ≡ false → P) → P
  tested true f g = f refl
  tested false f g = g refl

  -- past equal first keys
  within_tails : (x y : K × A) (xs ys : List (K × A)) → IsCanonical S (x ∷ xs) → IsCanonical S (y ∷ ys) → x.0 ≡ y.0 → KeysWithin (x ∷ xs) (y ∷ ys) → KeysWithin xs ys
  within_tails x y xs ys h k s w q e =
      tested (eq_by_cmp S.order q x.0)
      (λ t. tail_at x xs q h ∙ ap (λ b. cond b S.values.adder.nil (valued q (x ∷ xs))) t)
      (λ t. tail_at x xs q h ∙ ap (λ b. cond b S.values.adder.nil (valued q (x ∷ xs))) t ∙ w q (sym (tail_at y ys q k ∙ ap (λ b. cond b S.values.adder.nil (valued q (y ∷ ys))) (ap (eq_by_cmp S.order q) (sym s) ∙ t)) ∙ e))

  -- past a first key that the first list does not have
  within_rest : (x y : K × A) (xs ys : List (K × A)) → IsCanonical S (x ∷ xs) → IsCanonical S (y ∷ ys) → S.order y.0 x.0 ≡ Less → KeysWithin (x ∷ xs) (y ∷ ys) → KeysWithin (x ∷ xs) ys
  within_rest x y xs ys h k p w q e =
      tested (eq_by_cmp S.order q y.0)
      (λ t. ap (λ j. valued j (x ∷ xs)) (finite_proofs.key S q y.0 t) ∙ is_below y.0 x xs p h)
      (λ t. w q (sym (tail_at y ys q k ∙ ap (λ b. cond b S.values.adder.nil (valued q (y ∷ ys))) t) ∙ e))

  pub shorter : (xs ys : List (K × A)) → IsCanonical S xs → IsCanonical S ys → KeysWithin xs ys → length xs ≤ length ys
  shorter [] ys h k w = omega arith
  shorter (x ∷ xs) ys h k w = go (λ zs. shorter xs zs (canonical_tail S x xs h)) ys k w
    where
      go : ((zs : List (K × A)) → IsCanonical S zs → KeysWithin xs zs → length xs ≤ length zs) → (ys : List (K × A)) → IsCanonical S ys → KeysWithin (x ∷ xs) ys → length (x ∷ xs) ≤ length ys
      go rest [] k w = absurd (missing x xs [] h w refl)
      go rest (y ∷ ys) k w =
          let skipped : (S.order y.0 x.0 ≡ Less → length (x ∷ xs) ≤ length ys) = λ p. go rest ys (canonical_tail S y ys k) (within_rest x y xs ys h k p w) in
          by_order (S.order x.0 y.0) refl skipped
        where
          by_order : (r : Ordering) → S.order x.0 y.0 ≡ r → (S.order y.0 x.0 ≡ Less → length (x ∷ xs) ≤ length ys) → length (x ∷ xs) ≤ length (y ∷ ys)
          by_order Less e skipped = absurd (missing x xs (y ∷ ys) h w (is_below x.0 y ys e k))
          by_order Equal e skipped = let l : length xs ≤ length ys = rest ys (canonical_tail S y ys k) (within_tails x y xs ys h k (S.same x.0 y.0 e) w) in omega arith
          by_order Greater e skipped = let l : length (x ∷ xs) ≤ length ys = skipped (S.total.antisymm y.0 x.0 ∙ ap ordering_reverse e) in omega arith

-- ---- covering

-- no coefficient of the first polynomial is greater in absolute value
pub record IsCovered (p b : WholePolynomial) : Type 0 where
  pub at_most : (m : Monomial) → unsigned_abs (coefficient p m) ≤ unsigned_abs (coefficient b m)

-- no coefficient is negative
pub record IsNonNegative (p : WholePolynomial) : Type 0 where
  pub plain : (m : Monomial) → coefficient p m ≡ pos (unsigned_abs (coefficient p m))

pub zero_covered : (a b : ℤ) → unsigned_abs a ≤ unsigned_abs b → b ≡ pos 0 → a ≡ pos 0
zero_covered a b h e = unsigned_abs_zero a (let z : unsigned_abs b ≡ 0 = ap unsigned_abs e in omega arith)

pub length_covered : (p b : WholePolynomial) → IsCovered p b → length p.list ≤ length b.list
length_covered p b c = shorter terms p.list b.list p.canonical b.canonical (λ m e. zero_covered (coefficient p m) (coefficient b m) (c.at_most m) e)

pub covered_trans : (p q r : WholePolynomial) → IsCovered p q → IsCovered q r → IsCovered p r
covered_trans p q r c d = record { at_most = λ m. let h : unsigned_abs (coefficient p m) ≤ unsigned_abs (coefficient q m) = c.at_most m in let k : unsigned_abs (coefficient q m) ≤ unsigned_abs (coefficient r m) = d.at_most m in omega arith }

-- ---- sums of polynomials without negative coefficients

sum_size : (x y z : ℤ) → z ≡ x +ℤ y → x ≡ pos (unsigned_abs x) → y ≡ pos (unsigned_abs y) → unsigned_abs z ≡ unsigned_abs x + unsigned_abs y
sum_size x y z e h k = omega (arith, ints)

pub nonneg_sum : (p q : WholePolynomial) → IsNonNegative p → IsNonNegative q → IsNonNegative (p +ᴾ q)
nonneg_sum p q h k = record { plain = λ m. both_plain (coefficient p m) (coefficient q m) (coefficient (p +ᴾ q) m) (value-plus terms p q m) (h.plain m) (k.plain m) }
  where
    both_plain : (x y z : ℤ) → z ≡ x +ℤ y → x ≡ pos (unsigned_abs x) → y ≡ pos (unsigned_abs y) → z ≡ pos (unsigned_abs z)
    both_plain x y z e h k = omega (arith, ints)

pub covered_first : (p q : WholePolynomial) → IsNonNegative p → IsNonNegative q → IsCovered p (p +ᴾ q)
covered_first p q h k = record { at_most = λ m. let e = sum_size (coefficient p m) (coefficient q m) (coefficient (p +ᴾ q) m) (value-plus terms p q m) (h.plain m) (k.plain m) in omega arith }

pub covered_second : (p q : WholePolynomial) → IsNonNegative p → IsNonNegative q → IsCovered q (p +ᴾ q)
covered_second p q h k = record { at_most = λ m. let e = sum_size (coefficient p m) (coefficient q m) (coefficient (p +ᴾ q) m) (value-plus terms p q m) (h.plain m) (k.plain m) in omega arith }

pub nonneg_none : IsNonNegative 0ᴾ
nonneg_none = record { plain = λ m. value-none terms m ∙ sym (ap (λ z. pos (unsigned_abs z)) (value-none terms m)) }

-- ---- lists of absolute values

nonneg_sum_at : (t : Bool) (n : ℕ) (a : ℤ) → a ≡ pos (unsigned_abs a) → cond t (pos n) (pos 0) +ℤ a ≡ pos (unsigned_abs (cond t (pos n) (pos 0) +ℤ a))
nonneg_sum_at true n a h = omega (arith, ints)
nonneg_sum_at false n a h = omega (arith, ints)

nonneg_at : (es : List (Monomial × ℤ)) (m : Monomial) → at m (absolutes es) ≡ pos (unsigned_abs (at m (absolutes es)))
nonneg_at [] m = refl
nonneg_at (e ∷ es) m = nonneg_sum_at (eq_by_cmp monomial_cmp m e.0) (unsigned_abs e.1) (at m (absolutes es)) (nonneg_at es m)

pub nonneg_absolutes : (es : List (Monomial × ℤ)) → IsNonNegative (polynomial_of (absolutes es))
nonneg_absolutes es = record { plain = λ m. subst (λ z. z ≡ pos (unsigned_abs z)) (sym (value-of terms (absolutes es) m)) (nonneg_at es m) }

pub absolutes-append : (xs ys : List (Monomial × ℤ)) → absolutes (xs ++ ys) ≡ absolutes xs ++ absolutes ys
absolutes-append [] ys = refl
absolutes-append (x ∷ xs) ys = ap (λ es. (x.0, pos (unsigned_abs x.1)) ∷ es) (absolutes-append xs ys)

-- the absolute values of a list in order
below_absolutes : (m : Monomial) (es : List (Monomial × ℤ)) → T (below_all monomial_cmp coefficients m es) → T (below_all monomial_cmp coefficients m (absolutes es))
below_absolutes m [] h = tt
below_absolutes m (e ∷ es) h = both _ (below_all monomial_cmp coefficients m (absolutes es)) (first _ (below_all monomial_cmp coefficients m es) h) (below_absolutes m es (second (is_lt (monomial_cmp m e.0)) _ h))

pub by_test : (b : Bool) → (b ≡ true → ⊥) → T (not b)
by_test true f = absurd (f refl)
by_test false f = tt

not_zero_abs : (z : ℤ) → T (not (is_zero_int z)) → T (not (is_zero_int (pos (unsigned_abs z))))
not_zero_abs (pos n) h = h
not_zero_abs (negsuc n) h = by_test (eqb (suc n) 0) (λ e. let k : suc n ≡ 0 = eqb→eq (suc n) 0 (subst T (sym e) tt) in omega arith)

pub canonical_absolutes : (es : List (Monomial × ℤ)) → IsCanonical terms es → IsCanonical terms (absolutes es)
canonical_absolutes [] h = tt
canonical_absolutes (e ∷ es) h =
    canonical_cons terms (e.0, pos (unsigned_abs e.1)) (absolutes es) (not_zero_abs e.1 (canonical_value terms e es h)) (below_absolutes e.0 es (canonical_below terms e es h)) (canonical_absolutes es (canonical_tail terms e es h))

pub length-absolutes : (es : List (Monomial × ℤ)) → length (absolutes es) ≡ length es
length-absolutes [] = refl
length-absolutes (e ∷ es) = ap suc (length-absolutes es)

-- of a list in order, the polynomial with the absolute values is that of the absolute values
pub absolute_of : (es : List (Monomial × ℤ)) → IsCanonical terms es → absolute (polynomial_of es) ≡ polynomial_of (absolutes es)
unfolding absolute
absolute_of es h = ap (λ xs. polynomial_of (absolutes xs)) (finite_laws.list-of terms es h)

-- ---- one term

pub coefficient-term : (m : Monomial) (a : ℤ) → coefficient (term m a) m ≡ a
coefficient-term m a = finite_laws.value-term terms m a m ∙ ap (λ t. cond (is_eq t) a (pos 0)) (tied_itself monomial_cmp_total m)

-- a term with a number that is not 0 is not 0
pub term_apart : (m : Monomial) (a : ℤ) → ¬ (a ≡ pos 0) → ¬ (term m a ≡ 0ᴾ)
term_apart m a n e = n (sym (coefficient-term m a) ∙ ap (λ p. coefficient p m) e ∙ value-none terms m)

pub one_apart : ¬ (constant (pos 1) ≡ 0ᴾ)
one_apart = term_apart unit (pos 1) (λ e. let k : 1 ≡ 0 = ap unsigned_abs e in omega arith)

pub term_is : (m : Monomial) (a : ℤ) → term m a ≡ polynomial_of ((m, a) ∷ [])
unfolding finite.term
term_is m a = refl
