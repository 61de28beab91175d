-- The multiples in the recursion of the symbolic coefficients, as they are put: a polynomial times the total derivative of an unknown.
use Rattle.std.specs.Prelude.{◌≡◌, ℕ, suc, ◌<◌, List, [], ◌∷◌, ℤ, pos, unsigned_abs}
use Rattle.std.proofs.Common.{refl, sym, ap, ap₂, subst, subst₂, ◌∙◌}
use mathlib.Core.Path.{fun_ext}
use Rattle.lie_math.specs.Canonical.{sum_of_entries-map, idr}
use Rattle.lie_math.specs.Counts.{Derivative, raise, raised}
use Rattle.lie_math.specs.Derivation.{numbers_below}
use Rattle.lie_math.specs.FiniteSum as finite
use Rattle.lie_math.specs.FiniteSumLaws as finite_laws
use Rattle.lie_math.specs.FiniteSumLaws.{sum_of_terms, plus_idl, term_additive}
use Rattle.lie_math.specs.Limits.{absolute}
use Rattle.lie_math.specs.LinearForm.{forms, LinearForm, ◌+ᶠ◌, form_term, each_coefficient, times_form}
use Rattle.lie_math.specs.Monomial.{single, unit}
use Rattle.lie_math.specs.Polynomial.{WholePolynomial, term, constant, variable, ◌*ᴾ◌}
use Rattle.lie_jet.proofs.NumberTimesVariable.{times_variable}
use Rattle.lie_math.specs.PolynomialRing.{*ᴾ_assoc, *ᴾ_comm, one-*ᴾ}
use Rattle.lie_math.specs.SortedSum.{sum_of_entries}
use Rattle.lie_geometry.specs.Coordinates.{Space, jet, number}
use Rattle.lie_geometry.specs.SymbolicProlongation.{forms_over, unknown, symbolic_total}
use Rattle.lie_geometry.proofs.Derivations.{total_is_derivation}
use Rattle.lie_geometry.proofs.SymbolicProlongation.{total_term}
use Rattle.lie_systems.proofs.Triples.{times_form-none, times_form-plus, times_form-term}
use Rattle.lie_form.specs.FormLimits.{IsFormCoefficientCause}
use Rattle.lie_form.specs.FormTotals.{dependent_term, derived_term}
use Rattle.lie_jet.specs.Jets.{IsSmall}
use Rattle.lie_form.proofs.FormBounds.{IsFormBound}
use Rattle.lie_jet.proofs.TotalBounds.{absolute_term}
use Rattle.lie_form.proofs.FormTotalBounds.{derived_bound}
use Rattle.lie_symbolic.specs.SymbolicBulks.{symbolic_multiple}

-- ---- multiples of forms
pub times_one : (E : LinearForm) → times_form (constant (pos 1)) E ≡ E
times_one E = ap (λ φ. sum_of_entries (finite_laws.adder forms) φ E.list) (fun_ext (λ d. fun_ext (λ a. ap (form_term d) (one-*ᴾ a)))) ∙ sum_of_terms forms E

pub times_twice : (p q : WholePolynomial) (E : LinearForm) → times_form p (times_form q E) ≡ times_form (p *ᴾ q) E
times_twice p q E =
    sum_of_entries-map (finite_laws.adder forms) (finite_laws.adder forms) (times_form p) (times_form-none p) (times_form-plus p) (λ d a. form_term d (q *ᴾ a)) E.list
    ∙ ap (λ φ. sum_of_entries (finite_laws.adder forms) φ E.list) (fun_ext (λ d. fun_ext (λ a. times_form-term p d (q *ᴾ a) ∙ ap (form_term d) (sym (*ᴾ_assoc p q a)))))

pub times_over : (p : WholePolynomial) (is : List ℕ) (f : ℕ → LinearForm) → times_form p (forms_over is f) ≡ forms_over is (λ i. times_form p (f i))
times_over p [] f = times_form-none p
times_over p (i ∷ is) f = times_form-plus p (f i) (forms_over is f) ∙ ap (λ E. times_form p (f i) +ᶠ E) (times_over p is f)

-- ---- the total derivative of an unknown
one_listed : (d : Derivative) → (form_term d (constant (pos 1))).list ≡ (d, constant (pos 1)) ∷ []
unfolding finite.term finite.of
one_listed d = refl

module _ (S : Space) (k : ℕ) (d : Derivative) (p : WholePolynomial) where
  slopes : LinearForm
  slopes = forms_over (numbers_below S.q) (dependent_term S k d (constant (pos 1)))

  total_one : symbolic_total S k (form_term d (constant (pos 1))) ≡ form_term (raised k d) (constant (pos 1)) +ᶠ slopes
  unfolding symbolic_total slopes
  total_one =
      ap (λ (es : List (Derivative × WholePolynomial)). sum_of_entries (finite_laws.adder forms) (total_term S k) es) (one_listed d)
      ∙ idr (finite_laws.adder forms) (total_term S k d (constant (pos 1)))
      ∙ ap (λ E. E +ᶠ form_term (raised k d) (constant (pos 1)) +ᶠ slopes) (ap (form_term d) ((total_is_derivation S k).whole (pos 1)) ∙ (term_additive forms).on_nil d)
      ∙ ap (λ E. E +ᶠ slopes) (plus_idl forms (form_term (raised k d) (constant (pos 1))))

  one_right : p *ᴾ constant (pos 1) ≡ p
  one_right = *ᴾ_comm p (constant (pos 1)) ∙ one-*ᴾ p

  slope_times : (b : ℕ) → times_form p (dependent_term S k d (constant (pos 1)) b) ≡ dependent_term S k d p b
  slope_times b = times_form-term p _ _ ∙ ap (form_term _) (ap (λ q. p *ᴾ q) (one-*ᴾ _))

  -- times a polynomial
  pub times_unknown : times_form p (symbolic_total S k (form_term d (constant (pos 1)))) ≡ derived_term S k d p
  unfolding slopes
  times_unknown =
      ap (times_form p) total_one ∙ times_form-plus p (form_term (raised k d) (constant (pos 1))) slopes
      ∙ ap₂ ◌+ᶠ◌ (times_form-term p (raised k d) (constant (pos 1)) ∙ ap (form_term (raised k d)) one_right)
      (times_over p (numbers_below S.q) (dependent_term S k d (constant (pos 1))) ∙ ap (forms_over (numbers_below S.q)) (fun_ext slope_times))

abbrev pub component_at : ℕ → Derivative
component_at i = record { unknown = suc i; counts = [] }

module _ (S : Space) (k a : ℕ) (J : List ℕ) (i : ℕ) where
  abbrev pub raised_number : ℕ
  raised_number = number S (jet a (raise i J))

  multiple_is : symbolic_multiple S k a J i ≡ derived_term S k (component_at i) (variable raised_number)
  multiple_is = times_unknown S k (component_at i) (variable raised_number)

  signed_multiple : (s : ℤ) → times_form (constant s) (symbolic_multiple S k a J i) ≡ derived_term S k (component_at i) (term (single raised_number) s)
  signed_multiple s = times_twice (constant s) (variable raised_number) (symbolic_total S k (unknown i)) ∙ times_unknown S k (component_at i) (constant s *ᴾ variable raised_number) ∙ ap (derived_term S k (component_at i)) (times_variable raised_number s)

  -- what is put
  pub multiple_put : (s : ℤ) (E G : LinearForm) (d : Derivative) (p : WholePolynomial) (n : ℕ) → d ≡ component_at i → p ≡ term (single n) s → n ≡ raised_number → G ≡ E +ᶠ derived_term S k d p → G ≡ E +ᶠ times_form (constant s) (symbolic_multiple S k a J i)
  multiple_put s E G d p n e h q g = g ∙ ap (λ K. E +ᶠ K) (ap₂ (λ j u. derived_term S k j u) e (h ∙ ap (λ m. term (single m) s) q) ∙ sym (signed_multiple s))

  pub multiple_cause : (fail : Rattle.lie_ring.specs.declared.failures.PolyFail.PolyFail) (s : ℤ) (E : LinearForm) (d : Derivative) (p : WholePolynomial) (n : ℕ) → unsigned_abs s ≡ 1 → d ≡ component_at i → p ≡ term (single n) s → n ≡ raised_number → IsFormCoefficientCause fail (each_coefficient absolute E +ᶠ derived_term S k d (absolute p)) → IsFormCoefficientCause fail (each_coefficient absolute E +ᶠ symbolic_multiple S k a J i)
  multiple_cause fail s E d p n unit e h q cause =
      subst (λ K. IsFormCoefficientCause fail (each_coefficient absolute E +ᶠ K))
      (ap₂ (λ j u. derived_term S k j u) e (ap absolute (h ∙ ap (λ m. term (single m) s) q) ∙ absolute_term (single raised_number) s unit) ∙ sym multiple_is) cause

  module _ (small : IsSmall S) (inside : k < S.p) where
    pub multiple_bound : (s : ℤ) → unsigned_abs s ≡ 1 → IsFormBound (times_form (constant s) (symbolic_multiple S k a J i)) (symbolic_multiple S k a J i)
    multiple_bound s unit = subst₂ IsFormBound (sym (signed_multiple s)) (ap (derived_term S k (component_at i)) (absolute_term (single raised_number) s unit) ∙ sym multiple_is) (derived_bound S small k inside (component_at i) (term (single raised_number) s))
