-- Derivatives of forms without negative numbers, and of forms that bound others.
use Rattle.std.specs.Prelude.{◌≡◌, ℕ, ◌≤◌, Bool, true, false, cond, List, [], ◌∷◌, ℤ, pos, negsuc, ◌+ℤ◌, unsigned_abs}
use Rattle.std.proofs.Common.{refl, sym, ap, ap₂, subst, ◌∙◌, arith}
use borrow.Author.Differences.{ints}
use Rattle.std.specs.List.{AllByRecursion as Every}
use Rattle.std.specs.Ordering.{eq_by_cmp}
use Rattle.lie_math.specs.Canonical.{Additive}
use Rattle.lie_math.specs.Counts.{Derivative, derivative_cmp, raised}
use Rattle.lie_math.specs.FiniteSumLaws as finite_laws
use Rattle.lie_math.specs.FiniteSumLaws.{of_list, ext, sum-plus, value-plus, value-none, value-term, plus_comm, plus_assoc, plus_idl}
use Rattle.lie_math.specs.Limits.{absolute}
use Rattle.lie_math.specs.LinearForm.{forms, LinearForm, no_form, ◌+ᶠ◌, form_term, form_over, each_coefficient}
use Rattle.lie_math.specs.LinearSystem.{Unknown}
use Rattle.lie_math.specs.Monomial.{Monomial}
use Rattle.lie_math.specs.PartialDerivative.{partial}
use Rattle.lie_math.specs.Polynomial.{WholePolynomial, terms, polynomials, coefficient, constant, 0ᴾ, negᴾ, ◌+ᴾ◌}
use Rattle.lie_math.specs.PolynomialRing.{polynomial_ring, *ᴾ-dist, negᴾ_l}
use Rattle.lie_math.proofs.Ring.{times_nil}
use Rattle.lie_math.specs.SortedSum.{value_at}
use Rattle.lie_math.proofs.FiniteSum.{entries_of}
use Rattle.lie_math.proofs.Limits.{IsNonNegative}
use Rattle.lie_steps.specs.Derivatives.{derivative}
use Rattle.lie_steps.specs.Equations.{depends}
use Rattle.lie_replace.specs.Replacing.{derivatives_by}
use Rattle.lie_normal.specs.TermSums.{raised_term, derivative_term}
use Rattle.lie_jet.proofs.PolynomialBounds.{plain_bound, coefficient_absolute}
use Rattle.lie_form.proofs.FormBounds.{at, IsFormBound, IsPlain, form_trans, form_plain, form_sum, form_none, form_one, form_first, over_entries, entries_bound, at_absolute}
use Rattle.lie_geometry.proofs.AbsoluteForms.{entry_absolutes, list_absolutes}
use Rattle.lie_replace.proofs.GrowingCoefficients.{partial_plain}
use Rattle.lie_normal.proofs.DerivativeSteps.{term_bound}
use Rattle.lie_replace.proofs.DerivativesBy.{derivative_term_additive}

module _ (φ : Derivative → WholePolynomial → LinearForm) where
  -- ---- sums over entries
  pub over_plain : ((d : Derivative) (a : WholePolynomial) → IsNonNegative a → IsPlain (φ d a)) → (X : LinearForm) → IsPlain X → IsPlain (form_over φ X)
  over_plain plain X h = go X.list (entries_of forms X (λ (e : Derivative × WholePolynomial). IsNonNegative e.1) (λ e is n. subst IsNonNegative is (h.each e.0).plain))
    where
      go : (es : List (Derivative × WholePolynomial)) → Every (λ (e : Derivative × WholePolynomial). IsNonNegative e.1) es → IsPlain (over_entries φ es)
      go [] k = form_none
      go (e ∷ es) k = form_sum (φ e.0 e.1) (over_entries φ es) (φ e.0 e.1) (over_entries φ es) (plain e.0 e.1 k.0) (go es k.1)

  over_sizes : (es : List (Derivative × WholePolynomial)) → over_entries φ (entry_absolutes es) ≡ over_entries (λ d a. φ d (absolute a)) es
  over_sizes [] = refl
  over_sizes (e ∷ es) = ap (λ G. φ e.0 (absolute e.1) +ᶠ G) (over_sizes es)

  pub over_bounded : ((d : Derivative) (a : WholePolynomial) → IsFormBound (φ d a) (φ d (absolute a))) → (E : LinearForm) → IsFormBound (form_over φ E) (form_over φ (each_coefficient absolute E))
  over_bounded bound E = subst (IsFormBound (form_over φ E)) (sym (over_sizes E.list) ∙ ap (over_entries φ) (sym (list_absolutes E))) (entries_bound φ (λ d a. φ d (absolute a)) bound E.list)

-- ---- what is missing to a bound
pub at_each : (L : WholePolynomial → WholePolynomial) → L 0ᴾ ≡ 0ᴾ → ((a b : WholePolynomial) → L (a +ᴾ b) ≡ L a +ᴾ L b) → (E : LinearForm) (d : Derivative) → at (each_coefficient L E) d ≡ L (at E d)
at_each L zero plus E d = go E.list
  where
    term : (t : Bool) (a : WholePolynomial) → cond t (L a) 0ᴾ ≡ L (cond t a 0ᴾ)
    term true a = refl
    term false a = sym zero

    go : (es : List (Derivative × WholePolynomial)) → at (over_entries (λ k a. form_term k (L a)) es) d ≡ L (value_at derivative_cmp forms.values d es)
    go [] = value-none forms d ∙ sym zero
    go (e ∷ es) =
        value-plus forms (form_term e.0 (L e.1)) (over_entries (λ k a. form_term k (L a)) es) d
        ∙ ap₂ ◌+ᴾ◌ (value-term forms e.0 (L e.1) d ∙ term (eq_by_cmp derivative_cmp d e.0) e.1) (go es) ∙ sym (plus (cond (eq_by_cmp derivative_cmp d e.0) e.1 0ᴾ) (value_at derivative_cmp forms.values d es))

negative_value : (p : WholePolynomial) (m : Monomial) → coefficient (negᴾ p) m +ℤ coefficient p m ≡ pos 0
negative_value p m = sym (value-plus terms (negᴾ p) p m) ∙ ap (λ q. coefficient q m) (negᴾ_l p) ∙ value-none terms m

difference_plain : (e x y n : ℤ) → x ≡ pos (unsigned_abs e) → n +ℤ x ≡ pos 0 → unsigned_abs e ≤ unsigned_abs y → y ≡ pos (unsigned_abs y) → y +ℤ n ≡ pos (unsigned_abs (y +ℤ n))
difference_plain e x y n s z h k = omega (arith, ints)

module _ (E B : LinearForm) (bound : IsFormBound E B) where
  abbrev negative : LinearForm
  negative = each_coefficient negᴾ (each_coefficient absolute E)

  at_negative : (d : Derivative) → at negative d ≡ negᴾ (absolute (at E d))
  at_negative d = at_each negᴾ (times_nil polynomial_ring (constant (negsuc 0))) (*ᴾ-dist (constant (negsuc 0))) (each_coefficient absolute E) d ∙ ap negᴾ (at_absolute E d)

  -- what a bound has more than the absolute values of the form
  abbrev more : LinearForm
  more = B +ᶠ negative

  at_more : (d : Derivative) → at more d ≡ at B d +ᴾ negᴾ (absolute (at E d))
  at_more d = value-plus forms B negative d ∙ ap (λ p. at B d +ᴾ p) (at_negative d)

  more_plain : IsPlain more
  more_plain = record { each = λ d. plain_bound (at more d) (subst IsNonNegative (sym (at_more d)) (plain_at d)) }
    where
      plain_at : (d : Derivative) → IsNonNegative (at B d +ᴾ negᴾ (absolute (at E d)))
      plain_at d = record {
        plain = λ m. subst (λ z. z ≡ pos (unsigned_abs z)) (sym (value-plus terms (at B d) (negᴾ (absolute (at E d))) m))
            (difference_plain (coefficient (at E d) m) (coefficient (absolute (at E d)) m) (coefficient (at B d) m) (coefficient (negᴾ (absolute (at E d))) m) (coefficient_absolute (at E d) m) (negative_value (absolute (at E d)) m) ((bound.each d).covered.at_most m) ((bound.each d).plain.plain m));
      }

  with_more : B ≡ each_coefficient absolute E +ᶠ more
  with_more = ext forms B (each_coefficient absolute E +ᶠ more) (λ d. sym (value-plus forms (each_coefficient absolute E) more d ∙ ap₂ ◌+ᴾ◌ (at_absolute E d) (at_more d) ∙ back (absolute (at E d)) (at B d)))
    where
      back : (p q : WholePolynomial) → p +ᴾ (q +ᴾ negᴾ p) ≡ q
      back p q = ap (λ r. p +ᴾ r) (plus_comm terms q (negᴾ p)) ∙ sym (plus_assoc terms p (negᴾ p) q) ∙ ap (λ r. r +ᴾ q) (plus_comm terms p (negᴾ p) ∙ negᴾ_l p) ∙ plus_idl terms q

  -- a sum over the entries of what bounds a form bounds that over its entries
  pub over_monotone : (φ : Derivative → WholePolynomial → LinearForm) → Additive polynomials (finite_laws.adder forms) φ → ((d : Derivative) (a : WholePolynomial) → IsNonNegative a → IsPlain (φ d a))
      → ((d : Derivative) (a : WholePolynomial) → IsFormBound (φ d a) (φ d (absolute a))) → IsFormBound (form_over φ E) (form_over φ B)
  over_monotone φ add plain bounded =
      form_trans (form_over φ E) (form_over φ (each_coefficient absolute E)) (form_over φ B) (over_bounded φ bounded E)
      (subst (IsFormBound (form_over φ (each_coefficient absolute E))) (sym (ap (form_over φ) with_more ∙ sum-plus forms (finite_laws.adder forms) φ add (each_coefficient absolute E) more))
      (form_first (form_over φ (each_coefficient absolute E)) (form_over φ more) (form_plain _ _ (over_bounded φ bounded E)) (over_plain φ plain more more_plain)))

-- ---- derivatives
module _ (us : List Unknown) (v : ℕ) where
  pub term_plain : (d : Derivative) (a : WholePolynomial) → IsNonNegative a → IsPlain (derivative_term us v d a)
  term_plain d a h =
      form_sum (form_term d (partial v a)) (raised_term us v d a) (form_term d (partial v a)) (raised_term us v d a) (form_one d (partial v a) (partial v a) (plain_bound (partial v a) (partial_plain v a h)))
      (go (depends us d.unknown v))
    where
      go : (t : Bool) → IsPlain (cond t (form_term (raised v d) a) no_form)
      go true = form_one (raised v d) a a (plain_bound a h)
      go false = form_none

  pub derivative_plain : (X : LinearForm) → IsPlain X → IsPlain (derivative us v X)
  unfolding derivative
  derivative_plain X h = over_plain (derivative_term us v) term_plain X h

  pub derivative_bounded : (E B : LinearForm) → IsFormBound E B → IsFormBound (derivative us v E) (derivative us v B)
  unfolding derivative
  derivative_bounded E B h = over_monotone E B h (derivative_term us v) (derivative_term_additive us v) term_plain (term_bound us v)

pub derivatives_by_plain : (us : List Unknown) (vs : List ℕ) (X : LinearForm) → IsPlain X → IsPlain (derivatives_by us vs X)
derivatives_by_plain us [] X h = h
derivatives_by_plain us (v ∷ vs) X h = derivatives_by_plain us vs (derivative us v X) (derivative_plain us v X h)

pub derivatives_by_bounded : (us : List Unknown) (vs : List ℕ) (E B : LinearForm) → IsFormBound E B → IsFormBound (derivatives_by us vs E) (derivatives_by us vs B)
derivatives_by_bounded us [] E B h = h
derivatives_by_bounded us (v ∷ vs) E B h = derivatives_by_bounded us vs (derivative us v E) (derivative us v B) (derivative_bounded us v E B h)
