-- Additive maps that make no negative coefficient of a positive term: they keep bounds. The total derivatives are such, and the product with a variable.
use Rattle.std.specs.Prelude.{◌≡◌, ℕ, ◌<◌, List, [], ◌∷◌, ℤ, pos, ◌*ℤ◌, unsigned_abs}
use Rattle.std.proofs.Common.{sym, ap, subst, subst₂, ◌∙◌}
use Rattle.lie_math.specs.FiniteSumLaws.{of_list}
use Rattle.lie_math.specs.Limits.{absolutes, absolute}
use Rattle.lie_math.specs.Monomial.{Monomial, ◌·◌, single}
use Rattle.lie_math.specs.Polynomial.{WholePolynomial, terms, term, polynomial_of, 0ᴾ, ◌+ᴾ◌, ◌*ᴾ◌, variable}
use Rattle.lie_math.specs.PolynomialRing.{+ᴾ-*ᴾ, 0ᴾ-*ᴾ, term_times_term, polynomial_of-none}
use Rattle.lie_math.proofs.Derivation.{derived-0ᴾ}
use Rattle.lie_math.proofs.Limits.{term_is, IsNonNegative}
use Rattle.lie_math.proofs.CanonicalLists.{of-cons}
use Rattle.lie_geometry.specs.Coordinates.{Space}
use Rattle.lie_geometry.specs.Prolongation.{total_derivative}
use Rattle.lie_geometry.proofs.Derivations.{total_is_derivation}
use Rattle.lie_jet.specs.Jets.{IsSmall}
use Rattle.lie_jet.proofs.TotalSteps.{size_times}
use Rattle.lie_jet.proofs.TotalBounds.{term_bound, total_bound_of_term}
use Rattle.lie_jet.proofs.BoundedPolynomials.{bounded_more, left_over, left_over_plain, left_over_sum, absolute-nonneg}
use Rattle.lie_jet.proofs.PolynomialBounds.{IsBound, none_bound, sum_bound}

pub record IsPositive (F : WholePolynomial → WholePolynomial) : Type 0 where
  pub plus : (p q : WholePolynomial) → F (p +ᴾ q) ≡ F p +ᴾ F q
  pub nothing : F 0ᴾ ≡ 0ᴾ
  pub on_term : (m : Monomial) (c : ℤ) → IsBound (F (term m c)) (F (term m (pos (unsigned_abs c))))

module _ {F : WholePolynomial → WholePolynomial} (is : IsPositive F) where
  listed : (es : List (Monomial × ℤ)) → IsBound (F (polynomial_of es)) (F (polynomial_of (absolutes es)))
  listed [] = subst (λ p. IsBound p p) (sym (ap F polynomial_of-none ∙ is.nothing)) none_bound
  listed (e ∷ es) = subst₂ IsBound (sym (parted e es)) (sym (parted (e.0, pos (unsigned_abs e.1)) (absolutes es))) (sum_bound _ _ _ _ (is.on_term e.0 e.1) (listed es))
    where
      parted : (e : Monomial × ℤ) (es : List (Monomial × ℤ)) → F (polynomial_of (e ∷ es)) ≡ F (term e.0 e.1) +ᴾ F (polynomial_of es)
      parted e es = ap F (of-cons terms e es ∙ ap (λ p. p +ᴾ polynomial_of es) (sym (term_is e.0 e.1))) ∙ is.plus (term e.0 e.1) (polynomial_of es)

  pub positive_absolute : (p : WholePolynomial) → IsBound (F p) (F (absolute p))
  unfolding absolute
  positive_absolute p = subst (λ q. IsBound (F q) (F (polynomial_of (absolutes p.list)))) (of_list terms p) (listed p.list)

  pub positive_plain : (p : WholePolynomial) → IsNonNegative p → IsNonNegative (F p)
  positive_plain p h = subst (λ q. IsNonNegative (F q)) (absolute-nonneg p h) ((positive_absolute p).plain)

  pub positive_bounded : (p b : WholePolynomial) → IsBound p b → IsBound (F p) (F b)
  positive_bounded p b h =
      subst (IsBound (F p)) (sym (is.plus (absolute p) (left_over p b)) ∙ ap F (left_over_sum p b))
      (bounded_more (F p) (F (absolute p)) (F (left_over p b)) (positive_absolute p) (positive_plain (left_over p b) (left_over_plain p b h)))

-- ---- the product with a variable
pub times_is_positive : (w : ℕ) → IsPositive (λ p. p *ᴾ variable w)
times_is_positive w = record {
  plus = λ p q. +ᴾ-*ᴾ p q (variable w);
  nothing = 0ᴾ-*ᴾ (variable w);
  on_term = λ m c. subst₂ IsBound (sym (term_times_term m (single w) c (pos 1))) (ap (term (m · single w)) (size_times c 1) ∙ sym (term_times_term m (single w) (pos (unsigned_abs c)) (pos 1))) (term_bound (m · single w) (c *ℤ pos 1));
}

-- ---- the total derivatives
pub total_is_positive : (S : Space) → IsSmall S → (i : ℕ) → i < S.p → IsPositive (total_derivative S i)
total_is_positive S small i inside = record { plus = (total_is_derivation S i).plus; nothing = derived-0ᴾ (total_is_derivation S i); on_term = total_bound_of_term S small i inside }
