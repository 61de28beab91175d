-- The factors of a combination: what a coefficient becomes when it is divided by a number and a monomial is its quotient.
use Rattle.std.specs.Prelude.{◌≡◌, ℕ, List, [], ◌∷◌, ◌++◌, ℤ, pos, negsuc, neg_ℤ, unsigned_abs, ◌*ℤ◌, ◌+ℤ◌}
use Rattle.std.specs.Int.{◌∣◌}
use Rattle.std.specs.List.{AllByRecursion as Every}
use Rattle.std.proofs.Common.{refl, sym, ap, ap₂, subst, ◌∙◌, arith}
use borrow.Author.Differences.{ints}
use Rattle.std.proofs.Math.Nat.{eq-zero_of_zero-dvd}
use Rattle.lie_math.specs.Counts.{Derivative}
use Rattle.lie_math.specs.FiniteSum as finite
use Rattle.lie_math.specs.FiniteSumLaws.{ext, same_list, value-none, value-plus}
use Rattle.lie_math.specs.Limits.{absolute}
use Rattle.lie_math.specs.LinearForm.{LinearForm, ◌+ᶠ◌, times_form}
use Rattle.lie_math.specs.Monomial.{Monomial, unit}
use Rattle.lie_math.specs.MonomialOrder.{·_idl}
use Rattle.lie_math.specs.Polynomial.{WholePolynomial, terms, term, coefficient, constant, 0ᴾ, negᴾ, ◌*ᴾ◌}
use Rattle.lie_math.specs.PolynomialRing.{polynomial_ring, negᴾ_l, term_times_term}
use Rattle.lie_math.proofs.Cancellation.{factor_cancel}
use Rattle.lie_math.proofs.Differences.{negative_twice}
use Rattle.lie_math.proofs.FiniteSum.{entries_of}
use Rattle.lie_math.proofs.Integer.{unsigned_abs_zero}
use Rattle.lie_math.proofs.Limits.{term_apart}
use Rattle.lie_math.proofs.Ring.{times_nil}
use Rattle.lie_math.proofs.RingSolver.{v, ◌⊗◌, ⊖, solve, listed}
use Rattle.lie_systems.specs.Laws.{DividesMonomial}
use Rattle.lie_systems.specs.Normalised.{content, common_monomial}
use Rattle.lie_systems.specs.Triples.{Triple, triples_with}
use Rattle.lie_lin.specs.Powers.{IsDividedTerm}
use Rattle.lie_steps.specs.Bulks.{absolute_form}
use Rattle.lie_normal.specs.TermSums.{multiples_bulk}
use Rattle.lie_jet.proofs.PolynomialBounds.{coefficient_absolute}
use Rattle.lie_steps.specs.NormalForm.{quotient, coefficient_at, both_at, reduced_at, combined_bulk}
use Rattle.lie_steps.proofs.Combining.{quotient_back, divides_first, divides_second}

-- ---- what divides a coefficient
abbrev pub IsDivided : ℕ → Monomial → WholePolynomial → Type 0
IsDivided g m p = Every (λ (x : Monomial × ℤ). (g ∣ unsigned_abs x.1) × DividesMonomial m x.0) p.list

number_apart : (g : ℕ) → ¬ (g ≡ 0) → ¬ (pos g ≡ pos 0)
number_apart g n e = n (ap unsigned_abs e)

pub quotient_is : (g : ℕ) (m : Monomial) (p rest : WholePolynomial) → ¬ (g ≡ 0) → IsDivided g m p → term m (pos g) *ᴾ rest ≡ p → rest ≡ quotient g m p
quotient_is g m p rest n h e = factor_cancel (term m (pos g)) rest (quotient g m p) (term_apart m (pos g) (number_apart g n)) (e ∙ sym (quotient_back g m p h))

-- divided by the negative of the number
negative_term : (g : ℕ) (m : Monomial) → term m (neg_ℤ (pos g)) ≡ negᴾ (term m (pos g))
negative_term g m = ap₂ term (sym (·_idl m)) (minus (pos g)) ∙ sym (term_times_term unit m (negsuc 0) (pos g))
  where
    minus : (z : ℤ) → neg_ℤ z ≡ negsuc 0 *ℤ z
    minus z = omega (arith, ints)

moved_sign : (t q : WholePolynomial) → t *ᴾ negᴾ q ≡ negᴾ t *ᴾ q
moved_sign t q = solve polynomial_ring (listed t (t ∷ q ∷ [])) (v 0 ⊗ ⊖ (v 1)) (⊖ (v 0) ⊗ v 1) refl

pub negative_quotient_is : (g : ℕ) (m : Monomial) (p rest : WholePolynomial) → ¬ (g ≡ 0) → IsDivided g m p → term m (neg_ℤ (pos g)) *ᴾ rest ≡ p → rest ≡ negᴾ (quotient g m p)
negative_quotient_is g m p rest n h e =
    sym (negative_twice rest) ∙ ap negᴾ (quotient_is g m p (negᴾ rest) n h (moved_sign (term m (pos g)) rest ∙ ap (λ t. t *ᴾ rest) (sym (negative_term g m)) ∙ e))

pub size_negative : (g : ℕ) → unsigned_abs (neg_ℤ (pos g)) ≡ g
size_negative g = omega (arith, ints)

pub negative_apart : (z n : ℤ) → n ≡ neg_ℤ z → ¬ (z ≡ pos 0) → ¬ (n ≡ pos 0)
negative_apart z n e a h = a (omega (arith, ints))

-- ---- where nothing divides, there is no coefficient
none_divided : (m : Monomial) (p : WholePolynomial) → IsDivided 0 m p → p ≡ 0ᴾ
unfolding finite.none finite.of
none_divided m p h = same_list terms p 0ᴾ (go p.list h (entries_of terms p (λ x. ¬ (x.1 ≡ pos 0)) (λ x is apart. apart)))
  where
    go : (es : List (Monomial × ℤ)) → Every (λ (x : Monomial × ℤ). (0 ∣ unsigned_abs x.1) × DividesMonomial m x.0) es → Every (λ (x : Monomial × ℤ). ¬ (x.1 ≡ pos 0)) es → es ≡ []
    go [] k n = refl
    go (x ∷ es) k n = absurd (n.0 (unsigned_abs_zero x.1 (eq-zero_of_zero-dvd (k.0).0)))

quotient_none : (g : ℕ) (m : Monomial) → quotient g m 0ᴾ ≡ 0ᴾ
unfolding quotient finite.none finite.of
quotient_none g m = refl

module _ (d : Derivative) (E L : LinearForm) (z : content (both_at d E L) ≡ 0) where
  pub first_none : coefficient_at E d ≡ 0ᴾ
  first_none = none_divided (common_monomial (both_at d E L)) (coefficient_at E d) (subst (λ g. IsDivided g (common_monomial (both_at d E L)) (coefficient_at E d)) z (divides_first d E L))

  pub second_none : coefficient_at L d ≡ 0ᴾ
  second_none = none_divided (common_monomial (both_at d E L)) (coefficient_at L d) (subst (λ g. IsDivided g (common_monomial (both_at d E L)) (coefficient_at L d)) z (divides_second d E L))

  pub factor_none : 0ᴾ ≡ reduced_at d E L (coefficient_at L d)
  factor_none = sym (ap (reduced_at d E L) second_none ∙ quotient_none (content (both_at d E L)) (common_monomial (both_at d E L)))

  pub other_factor_none : 0ᴾ ≡ negᴾ (reduced_at d E L (coefficient_at E d))
  other_factor_none =
      sym (ap (λ p. negᴾ (reduced_at d E L p)) first_none ∙ ap negᴾ (quotient_none (content (both_at d E L)) (common_monomial (both_at d E L))) ∙ times_nil polynomial_ring (constant (negsuc 0)))

-- ---- the bulk has no sign
negative_coefficient : (p : WholePolynomial) (m : Monomial) → coefficient (negᴾ p) m +ℤ coefficient p m ≡ pos 0
negative_coefficient p m = sym (value-plus terms (negᴾ p) p m) ∙ ap (λ q. coefficient q m) (negᴾ_l p) ∙ value-none terms m

pub absolute_negative : (p : WholePolynomial) → absolute (negᴾ p) ≡ absolute p
absolute_negative p = ext terms (absolute (negᴾ p)) (absolute p) (λ m. coefficient_absolute (negᴾ p) m ∙ same (coefficient (negᴾ p) m) (coefficient p m) (negative_coefficient p m) ∙ sym (coefficient_absolute p m))
  where
    same : (n x : ℤ) → n +ℤ x ≡ pos 0 → pos (unsigned_abs n) ≡ pos (unsigned_abs x)
    same n x e = omega (arith, ints)

-- ---- the factors as they are made
module _ (d : Derivative) (E L : LinearForm) (a b : WholePolynomial) (a_is : a ≡ coefficient_at E d) (b_is : b ≡ coefficient_at L d)
    (ts : List Triple) (ts_is : ts ≡ triples_with d a.list ++ triples_with d b.list) (number : ℤ) (number_is : number ≡ pos (content ts)) where
  both : ts ≡ both_at d E L
  both = ts_is ∙ ap₂ (λ (p q : WholePolynomial). triples_with d p.list ++ triples_with d q.list) a_is b_is

  divisor_is : number ≡ pos (content (both_at d E L))
  divisor_is = number_is ∙ ap (λ us. pos (content us)) both

  pub none_factor : number ≡ pos 0 → 0ᴾ ≡ reduced_at d E L (coefficient_at L d)
  none_factor z = factor_none d E L (ap unsigned_abs (sym divisor_is ∙ z))

  pub none_other_factor : number ≡ pos 0 → 0ᴾ ≡ negᴾ (reduced_at d E L (coefficient_at E d))
  none_other_factor z = other_factor_none d E L (ap unsigned_abs (sym divisor_is ∙ z))

  apart : ¬ (number ≡ pos 0) → ¬ (content (both_at d E L) ≡ 0)
  apart n z = n (divisor_is ∙ ap pos z)

  module _ (m : Monomial) (m_is : m ≡ common_monomial ts) where
    factor_of : m ≡ common_monomial (both_at d E L)
    factor_of = m_is ∙ ap common_monomial both

    pub factor_divided : Every (IsDividedTerm m number) b.list
    factor_divided = subst (λ (p : WholePolynomial). Every (IsDividedTerm m number) p.list) (sym b_is)
        (subst (λ n. Every (IsDividedTerm n number) (coefficient_at L d).list) (sym factor_of)
        (subst (λ g. Every (λ (x : Monomial × ℤ). (g ∣ unsigned_abs x.1) × DividesMonomial (common_monomial (both_at d E L)) x.0) (coefficient_at L d).list) (sym (ap unsigned_abs divisor_is)) (divides_second d E L)))

    pub other_factor_divided : (n : ℤ) → n ≡ neg_ℤ number → Every (IsDividedTerm m n) a.list
    other_factor_divided n e = subst (λ (p : WholePolynomial). Every (IsDividedTerm m n) p.list) (sym a_is)
        (subst (λ k. Every (IsDividedTerm k n) (coefficient_at E d).list) (sym factor_of)
        (subst (λ g. Every (λ (x : Monomial × ℤ). (g ∣ unsigned_abs x.1) × DividesMonomial (common_monomial (both_at d E L)) x.0) (coefficient_at E d).list) (sym (ap (λ z. unsigned_abs (neg_ℤ z)) divisor_is ∙ size_negative (content (both_at d E L))) ∙ sym (ap unsigned_abs e)) (divides_first d E L)))

    pub factor_made : ¬ (number ≡ pos 0) → (rest : WholePolynomial) → term m number *ᴾ rest ≡ b → rest ≡ reduced_at d E L (coefficient_at L d)
    factor_made n rest h =
        quotient_is (content (both_at d E L)) (common_monomial (both_at d E L)) (coefficient_at L d) rest (apart n) (divides_second d E L)
        (ap₂ (λ k z. term k z *ᴾ rest) (sym factor_of) (sym divisor_is) ∙ h ∙ b_is)

    pub other_factor_made : ¬ (number ≡ pos 0) → (n : ℤ) → n ≡ neg_ℤ number → (rest : WholePolynomial) → term m n *ᴾ rest ≡ a → rest ≡ negᴾ (reduced_at d E L (coefficient_at E d))
    other_factor_made k n e rest h =
        negative_quotient_is (content (both_at d E L)) (common_monomial (both_at d E L)) (coefficient_at E d) rest (apart k) (divides_first d E L)
        (ap₂ (λ j z. term j z *ᴾ rest) (sym factor_of) (sym (e ∙ ap neg_ℤ divisor_is)) ∙ h ∙ a_is)

-- ---- the combination
pub combined_bulk_is : (d : Derivative) (E L : LinearForm) (p q : WholePolynomial) → p ≡ reduced_at d E L (coefficient_at L d) → q ≡ negᴾ (reduced_at d E L (coefficient_at E d)) → multiples_bulk p E q L ≡ combined_bulk d E L
combined_bulk_is d E L p q e h =
    ap₂ (λ x y. times_form x (absolute_form E) +ᶠ times_form y (absolute_form L)) (ap absolute e) (ap absolute h ∙ absolute_negative (reduced_at d E L (coefficient_at E d)))
