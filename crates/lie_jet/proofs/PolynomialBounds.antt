-- Bounds of polynomials: what has no negative number and covers a polynomial.
use Rattle.std.specs.Prelude.{◌≡◌, ◌≤◌, Bool, true, false, cond, List, [], ◌∷◌, map, ℤ, pos, ◌+ℤ◌, unsigned_abs}
use Rattle.std.specs.Ordering.{eq_by_cmp}
use Rattle.std.proofs.Common.{refl, sym, ap, subst, ◌∙◌, arith}
use borrow.Author.Differences.{ints}
use Rattle.lie_math.specs.Canonical.{value_at-tail, idr}
use Rattle.lie_math.specs.FiniteSum as finite
use Rattle.lie_math.specs.FiniteSum.{Shape, IsCanonical}
use Rattle.lie_math.specs.FiniteSumLaws.{value-of, value-plus}
use Rattle.lie_math.specs.Limits.{absolute, absolutes}
use Rattle.lie_math.specs.Monomial.{Monomial}
use Rattle.lie_math.specs.Polynomial.{WholePolynomial, terms, coefficient, 0ᴾ, ◌+ᴾ◌}
use Rattle.lie_math.specs.SortedSum.{value_at}
use Rattle.lie_math.proofs.Limits.{IsCovered, IsNonNegative, covered_trans, nonneg_sum, nonneg_none}
use Rattle.lie_math.proofs.CanonicalLists.{canonical_tail, canonical_below}

-- ---- a list with another value at each key
module _ {K A : Type 0} (S : Shape K A) (L : A → A) (on_nil : L S.values.adder.nil ≡ S.values.adder.nil) where
  abbrev pub each_value : List (K × A) → List (K × A)
  each_value es = map (λ (e : K × A). (e.0, L e.1)) es

  pub value_at-each : (k : K) (es : List (K × A)) → IsCanonical S es → value_at S.order S.values k (each_value es) ≡ L (value_at S.order S.values k es)
  value_at-each k [] h = sym on_nil
  value_at-each k (e ∷ es) h = by (eq_by_cmp S.order k e.0) refl (value_at-each k es (canonical_tail S e es h))
    where
      plus : A → A → A
      plus = S.values.adder.plus

      by : (b : Bool) → eq_by_cmp S.order k e.0 ≡ b → value_at S.order S.values k (each_value es) ≡ L (value_at S.order S.values k es) → plus (cond b (L e.1) S.values.adder.nil) (value_at S.order S.values k (each_value es)) ≡ L (plus (cond b e.1 S.values.adder.nil) (value_at S.order S.values k es))
      by true t rest =
          let none : value_at S.order S.values k es ≡ S.values.adder.nil = value_at-tail S.order S.values S.total S.same k e es (canonical_below S e es h) ∙ ap (λ b. cond b S.values.adder.nil (value_at S.order S.values k (e ∷ es))) t in
          ap (plus (L e.1)) (rest ∙ ap L none ∙ on_nil) ∙ idr S.values.adder (L e.1) ∙ ap L (sym (ap (plus e.1) none ∙ idr S.values.adder e.1))
      by false t rest = S.values.adder.idl _ ∙ rest ∙ ap L (sym (S.values.adder.idl (value_at S.order S.values k es)))

-- ---- polynomials
pub coefficient_absolute : (p : WholePolynomial) (m : Monomial) → coefficient (absolute p) m ≡ pos (unsigned_abs (coefficient p m))
unfolding absolute
coefficient_absolute p m = value-of terms (absolutes p.list) m ∙ value_at-each terms (λ z. pos (unsigned_abs z)) refl m p.list p.canonical

pub absolute_none : absolute 0ᴾ ≡ 0ᴾ
unfolding absolute finite.none finite.of
absolute_none = refl

-- nothing in b is negative, and it covers p
pub record IsBound (p b : WholePolynomial) : Type 0 where
  pub covered : IsCovered p b
  pub plain : IsNonNegative b

absolute_sum : (x y a b s t : ℤ) → s ≡ x +ℤ y → t ≡ a +ℤ b → unsigned_abs x ≤ unsigned_abs a → unsigned_abs y ≤ unsigned_abs b → a ≡ pos (unsigned_abs a) → b ≡ pos (unsigned_abs b) → unsigned_abs s ≤ unsigned_abs t
absolute_sum x y a b s t e f h k p q = omega (arith, ints)

pub sum_bound : (p q b c : WholePolynomial) → IsBound p b → IsBound q c → IsBound (p +ᴾ q) (b +ᴾ c)
sum_bound p q b c h k = record {
  covered = record { at_most = λ m. absolute_sum (coefficient p m) (coefficient q m) (coefficient b m) (coefficient c m) _ _ (value-plus terms p q m) (value-plus terms b c m) (h.covered.at_most m) (k.covered.at_most m) (h.plain.plain m) (k.plain.plain m) };
  plain = nonneg_sum b c h.plain k.plain;
}

pub absolute_bound : (p : WholePolynomial) → IsBound p (absolute p)
absolute_bound p = record {
  covered = record { at_most = λ m. subst (λ z. unsigned_abs (coefficient p m) ≤ unsigned_abs z) (sym (coefficient_absolute p m)) (let h : unsigned_abs (coefficient p m) ≤ unsigned_abs (coefficient p m) = omega arith in h) };
  plain = record { plain = λ m. coefficient_absolute p m ∙ sym (ap (λ z. pos (unsigned_abs z)) (coefficient_absolute p m)) };
}

-- what covers a polynomial covers its absolute values
pub covered_absolute : (p b : WholePolynomial) → IsBound p b → IsBound (absolute p) b
covered_absolute p b h = record {
  covered = record { at_most = λ m. subst (λ z. unsigned_abs z ≤ unsigned_abs (coefficient b m)) (sym (coefficient_absolute p m)) (h.covered.at_most m) };
  plain = h.plain;
}

pub none_bound : IsBound 0ᴾ 0ᴾ
none_bound = record { covered = record { at_most = λ m. omega arith }; plain = nonneg_none }

pub plain_bound : (p : WholePolynomial) → IsNonNegative p → IsBound p p
plain_bound p h = record { covered = record { at_most = λ m. omega arith }; plain = h }

pub trans_bound : (p b c : WholePolynomial) → IsBound p b → IsBound b c → IsBound p c
trans_bound p b c h k = record { covered = covered_trans p b c h.covered k.covered; plain = k.plain }
