-- The field of unknown functions applied to an equation is what the forms at the coordinates give, and so with absolute values.
use Rattle.std.specs.Prelude.{◌≡◌, ℕ, zero, suc, ◌<◌, ◌≤◌, ◌^◌, ◌⊎◌, List, [], ◌∷◌, length, map, slice_index_or, ℤ, pos, negsuc, unsigned_abs}
use Rattle.std.specs.List.{Contains}
use Rattle.std.proofs.Common.{refl, sym, ap, ap₂, subst, ◌∙◌, arith, get_or, inl, inr}
use Rattle.std.proofs.lemmas.List.{get_or-map, length-map}
use Rattle.lie_math.specs.Counts.{Derivative}
use Rattle.lie_math.specs.Derivation.{numbers_below}
use Rattle.lie_math.specs.FiniteSumLaws as finite_laws
use Rattle.lie_math.specs.Limits.{absolute}
use Rattle.lie_math.specs.LinearForm.{forms, LinearForm, no_form, ◌+ᶠ◌, form_term, each_coefficient, times_form}
use Rattle.lie_math.specs.PartialDerivative.{partial}
use Rattle.lie_math.specs.Polynomial.{WholePolynomial, 0ᴾ, ◌*ᴾ◌}
use Rattle.lie_math.specs.PolynomialRing.{polynomial_ring}
use Rattle.lie_math.specs.SortedSum.{sum_of_entries}
use Rattle.lie_math.specs.Variables.{FreeOf}
use Rattle.lie_math.proofs.Dependence.{partial_of_free}
use Rattle.lie_math.proofs.Ring.{nil_times}
use Rattle.lie_geometry.specs.Coordinates.{Space, coordinate}
use Rattle.lie_geometry.specs.Invariance.{greatest_order}
use Rattle.lie_geometry.specs.SolvedEquations.{SolvedEquation, difference}
use Rattle.lie_geometry.specs.SymbolicProlongation.{forms_over, symbolic_coefficient_at, symbolic_application}
use Rattle.lie_form.specs.FormLimits.{IsFormCause, IsFormCoefficientCause}
use Rattle.lie_jet.specs.Jets.{IsSmall}
use Rattle.lie_jet.proofs.Absolutes.{absolute_twice}
use Rattle.lie_jet.proofs.PolynomialBounds.{coefficient_absolute}
use Rattle.lie_form.proofs.FormBounds.{form_absolute_twice}
use Rattle.lie_form.proofs.FormCauses.{coefficient_cause}
use Rattle.lie_ring.specs.declared.failures.PolyFail.{PolyFail}
use Rattle.lie_symbolic.proofs.SymbolicWithin.{few_coordinates}
use Rattle.lie_reduce.specs.Applications.{sides}
use Rattle.lie_determining.specs.AppliedForms.{applied_forms, applied_forms_bulk, AreCoordinateForms}
use Rattle.lie_reduce.specs.Bulks.{absolute_equation}
use Rattle.lie_determining.specs.SymbolicBulks.{symbolic_application_bulk}
use Rattle.lie_reduce.proofs.Differences.{absolute_sides}

-- ---- sums over the same forms
over_same : (n : ℕ) (f g : ℕ → LinearForm) → ((i : ℕ) → i < n → f i ≡ g i) → forms_over (numbers_below n) f ≡ forms_over (numbers_below n) g
over_same zero f g h = refl
over_same (suc n) f g h = ap₂ ◌+ᶠ◌ (h n (omega arith)) (over_same n f g (λ i l. h i (omega arith)))

-- ---- zero times a form
times_zero : (E : LinearForm) → times_form 0ᴾ E ≡ no_form
times_zero E = go E.list
  where
    go : (es : List (Derivative × WholePolynomial)) → sum_of_entries (finite_laws.adder forms) (λ d a. form_term d (0ᴾ *ᴾ a)) es ≡ no_form
    go [] = refl
    go (e ∷ es) = ap₂ ◌+ᶠ◌ (ap (form_term e.0) (nil_times polynomial_ring e.1) ∙ (finite_laws.term_additive forms).on_nil e.0) (go es) ∙ finite_laws.plus_idl forms no_form

pub free_absolute : (v : ℕ) (p : WholePolynomial) → FreeOf v p → FreeOf v (absolute p)
free_absolute v p free m apart = free m (λ z. apart (coefficient_absolute p m ∙ ap (λ y. pos (unsigned_abs y)) z))

module _ (S : Space) (rs : List SolvedEquation) (r : SolvedEquation) (free : FreeOf r.lead r.right) (Fs : List LinearForm) (are : AreCoordinateForms S rs Fs) (inside : Contains rs r) (lead : ℕ) (lead_is : lead ≡ r.lead) where
  pub few_forms : IsSmall S → greatest_order S rs ≤ 6 → length Fs < 2 ^ 32
  few_forms small low = let c = are.count in let h = few_coordinates S small (greatest_order S rs) low in omega arith

  -- where the equation does not have the coordinate, the form counts for nothing
  same_at : (g : LinearForm → LinearForm) (P : WholePolynomial) → ((w : ℕ) → FreeOf w (difference r) → FreeOf w P) → (w : ℕ) → w < length Fs
      → times_form (partial w P) (g (slice_index_or Fs w no_form)) ≡ times_form (partial w P) (g (symbolic_coefficient_at S (coordinate S w)))
  same_at g P kept w h = by (are.at w h)
    where
      nothing : FreeOf w (difference r) → (E : LinearForm) → times_form (partial w P) E ≡ no_form
      nothing f E = ap (λ p. times_form p E) (partial_of_free w P (kept w f)) ∙ times_zero E

      by : (slice_index_or Fs w no_form ≡ symbolic_coefficient_at S (coordinate S w)) ⊎ ((q : SolvedEquation) → Contains rs q → FreeOf w (difference q)) → times_form (partial w P) (g (slice_index_or Fs w no_form)) ≡ times_form (partial w P) (g (symbolic_coefficient_at S (coordinate S w)))
      by (inl e) = ap (λ F. times_form (partial w P) (g F)) e
      by (inr f) = nothing (f r inside) (g (slice_index_or Fs w no_form)) ∙ sym (nothing (f r inside) (g (symbolic_coefficient_at S (coordinate S w))))

  -- truly
  pub true_sum : (E : LinearForm) (s : ℤ) → s ≡ negsuc 0 → E ≡ applied_forms Fs (sides lead r.factor s r.right) → E ≡ symbolic_application S rs r
  unfolding symbolic_application
  true_sum E s e h =
      h ∙ ap₂ (λ l z. applied_forms Fs (sides l r.factor z r.right)) lead_is e
      ∙ over_same (length Fs) _ _ (same_at (λ E. E) (difference r) (λ w f. f)) ∙ ap (λ n. forms_over (numbers_below n) (λ w. times_form (partial w (difference r)) (symbolic_coefficient_at S (coordinate S w)))) are.count

  size_of_difference : (s : ℤ) → unsigned_abs s ≡ 1 → absolute (sides lead r.factor s r.right) ≡ absolute (difference r)
  size_of_difference s unit =
      ap (λ l. absolute (sides l r.factor s r.right)) lead_is ∙ absolute_sides r.lead r.factor s r.right unit free ∙ sym (absolute_sides r.lead r.factor (negsuc 0) r.right refl free)

  bulk_over : (P : WholePolynomial) → P ≡ absolute (difference r) → forms_over (numbers_below (length Fs)) (λ w. times_form (partial w P) (each_coefficient absolute (slice_index_or Fs w no_form))) ≡ symbolic_application_bulk S rs r
  bulk_over P e =
      ap (λ p. forms_over (numbers_below (length Fs)) (λ w. times_form (partial w p) (each_coefficient absolute (slice_index_or Fs w no_form)))) e
      ∙ over_same (length Fs) _ _ (same_at (each_coefficient absolute) (absolute (difference r)) (λ w. free_absolute w (difference r)))
      ∙ ap (λ n. forms_over (numbers_below n) (λ w. times_form (partial w (absolute (difference r))) (each_coefficient absolute (symbolic_coefficient_at S (coordinate S w))))) are.count

  pub true_cause : (fail : PolyFail) (s : ℤ) → unsigned_abs s ≡ 1 → IsFormCoefficientCause fail (applied_forms_bulk Fs (sides lead r.factor s r.right)) → IsFormCause fail (symbolic_application_bulk S rs r)
  true_cause fail s unit cause = coefficient_cause fail _ (subst (IsFormCoefficientCause fail) (bulk_over (absolute (sides lead r.factor s r.right)) (size_of_difference s unit)) cause)

  -- with absolute values
  module _ (q : SolvedEquation) (sized : q ≡ absolute_equation r) (Gs : List LinearForm) (sizes : Gs ≡ map (each_coefficient absolute) Fs) (s : ℤ) (one : s ≡ pos 1) where
    size_count : length Gs ≡ length Fs
    size_count = ap length sizes ∙ length-map Fs (each_coefficient absolute)

    pub few_sizes : IsSmall S → greatest_order S rs ≤ 6 → length Gs < 2 ^ 32
    few_sizes small low = let c = size_count in let h = few_forms small low in omega arith

    size_at : (w : ℕ) → w < length Fs → slice_index_or Gs w no_form ≡ each_coefficient absolute (slice_index_or Fs w no_form)
    size_at w inside = ap (λ (xs : List LinearForm). get_or xs w no_form) sizes ∙ get_or-map (each_coefficient absolute) Fs w no_form no_form inside

    bulk_polynomial : sides lead q.factor s q.right ≡ absolute (difference r)
    bulk_polynomial =
        ap (λ (x : SolvedEquation). sides lead x.factor s x.right) sized ∙ ap₂ (λ l z. sides l (pos (unsigned_abs r.factor)) z (absolute r.right)) lead_is one
        ∙ sym (absolute_sides r.lead r.factor (negsuc 0) r.right refl free)

    pub bulk_sum : (E : LinearForm) → E ≡ applied_forms Gs (sides lead q.factor s q.right) → E ≡ symbolic_application_bulk S rs r
    bulk_sum E h =
        h ∙ ap (λ n. forms_over (numbers_below n) (λ w. times_form (partial w (sides lead q.factor s q.right)) (slice_index_or Gs w no_form))) size_count
        ∙ over_same (length Fs) _ _ (λ w inside. ap (times_form (partial w (sides lead q.factor s q.right))) (size_at w inside)) ∙ bulk_over (sides lead q.factor s q.right) bulk_polynomial

    pub bulk_cause : (fail : PolyFail) → IsFormCoefficientCause fail (applied_forms_bulk Gs (sides lead q.factor s q.right)) → IsFormCause fail (symbolic_application_bulk S rs r)
    bulk_cause fail cause =
        coefficient_cause fail _ (subst (IsFormCoefficientCause fail)
        (ap (λ n. forms_over (numbers_below n) (λ w. times_form (partial w (absolute (sides lead q.factor s q.right))) (each_coefficient absolute (slice_index_or Gs w no_form)))) size_count
        ∙ over_same (length Fs) _ _ (λ w inside. ap (times_form (partial w (absolute (sides lead q.factor s q.right)))) (ap (each_coefficient absolute) (size_at w inside) ∙ form_absolute_twice (slice_index_or Fs w no_form)))
        ∙ bulk_over (absolute (sides lead q.factor s q.right)) (ap absolute bulk_polynomial ∙ absolute_twice (difference r))) cause)
