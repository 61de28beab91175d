-- Bounds of sums over the terms of a form: a cause that is found at one term is a cause of the whole sum with absolute values.
use Rattle.std.specs.Prelude.{◌≡◌, ℕ, ◌+◌, ◌<◌, List, [], ◌∷◌, length, take}
use Rattle.std.proofs.Common.{refl, sym, ap, ap₂, subst, ◌∙◌, get_or}
use Rattle.lie_math.specs.Counts.{Derivative}
use Rattle.lie_math.specs.FiniteSum as finite
use Rattle.lie_math.specs.FiniteSumLaws.{of_list}
use Rattle.lie_math.specs.Limits.{absolute}
use Rattle.lie_math.specs.LinearForm.{LinearForm, forms, ◌+ᶠ◌, form_over, each_coefficient}
use Rattle.lie_math.specs.Polynomial.{WholePolynomial}
use Rattle.lie_ring.specs.declared.failures.PolyFail.{PolyFail}
use Rattle.lie_jet.specs.Derivatives.{derivative_of}
use Rattle.lie_jet.specs.declared.derivative.Der.{Der}
use Rattle.lie_jet.proofs.Absolutes.{absolute_twice}
use Rattle.lie_form.specs.DerivativeTerms.{derivative_terms}
use Rattle.lie_form.specs.FormLimits.{IsFormCoefficientCause}
use Rattle.lie_form.proofs.FormBounds.{IsFormBound, cause_bound, form_trans, form_plain, form_sum, over_entries, entries_bound, front_bound, form_absolute_bound}
use Rattle.lie_geometry.proofs.AbsoluteForms.{entry_absolutes}
use Rattle.lie_form.proofs.FormParts.{kept_absolutes}
use Rattle.lie_form.proofs.FormSteps.{over_absolutes, entries_step}
use Rattle.lie_lin.specs.Forms.{coefficients_of, AreCoefficients}
use Rattle.lie_steps.specs.Bulks.{absolute_form}
use Rattle.lie_normal.proofs.AbsoluteForms.{list-absolute_form}

-- ---- the terms of a form as they are kept
pub same_terms : (es : List (Der × WholePolynomial)) → derivative_terms es ≡ coefficients_of es
same_terms [] = refl
same_terms (e ∷ es) = ap (λ xs. (derivative_of e.0, e.1) ∷ xs) (same_terms es)

pub terms_of_sizes : (es : List (Der × WholePolynomial)) → derivative_terms (kept_absolutes es) ≡ entry_absolutes (derivative_terms es)
terms_of_sizes [] = refl
terms_of_sizes (e ∷ es) = ap (λ xs. (derivative_of e.0, absolute e.1) ∷ xs) (terms_of_sizes es)

-- a form is that of the terms that are moved out of it
pub kept_form : (F S : LinearForm) (ts : List (Der × WholePolynomial)) → F ≡ finite.of forms (coefficients_of ts) → derivative_terms ts ≡ S.list → F ≡ S
kept_form F S ts e h = e ∙ ap (finite.of forms) (sym (same_terms ts) ∙ h) ∙ of_list forms S

pub kept_coefficients : (S : LinearForm) (ts : List (Der × WholePolynomial)) → derivative_terms ts ≡ S.list → AreCoefficients ts
kept_coefficients S ts h = subst (finite.IsCanonical forms) (sym h ∙ same_terms ts) S.canonical

-- ---- a sum over the terms of a form
module _ (φ : Derivative → WholePolynomial → LinearForm) (bound : (d : Derivative) (a : WholePolynomial) → IsFormBound (φ d a) (φ d (absolute a))) where
  φ_sizes : Derivative → WholePolynomial → LinearForm
  φ_sizes d a = φ d (absolute a)

  pub bulk_is : (E : LinearForm) → form_over φ (absolute_form E) ≡ over_entries (λ d a. φ d (absolute a)) E.list
  bulk_is E = ap (over_entries φ) (list-absolute_form E) ∙ over_absolutes φ E.list

  pub term_cause : (fail : PolyFail) (G : LinearForm) (ts : List (Der × WholePolynomial)) (k : ℕ) (x : Der × WholePolynomial) → k < length ts → x ≡ get_or ts k x → G ≡ over_entries φ (take k (derivative_terms ts))
      → IsFormCoefficientCause fail (each_coefficient absolute G +ᶠ φ (derivative_of x.0) (absolute x.1)) → IsFormCoefficientCause fail (over_entries (λ d a. φ d (absolute a)) (derivative_terms ts))
  unfolding φ_sizes
  term_cause fail G ts k x h e is cause =
      cause_bound fail _ _
      (form_trans _ _ _ (subst (IsFormBound _) (sym (entries_step φ_sizes ts k x h e)) (form_sum _ _ _ _ (form_absolute_bound G _ (subst (λ K. IsFormBound K (over_entries φ_sizes (take k (derivative_terms ts)))) (sym is) (entries_bound φ φ_sizes bound (take k (derivative_terms ts))))) (form_plain _ _ (bound (derivative_of x.0) x.1))))
      (front_bound φ_sizes (λ d a. form_plain _ _ (bound d a)) (derivative_terms ts) (k + 1))) cause

  -- the sum over the terms with absolute values has the same bulk
  twice : (es : List (Derivative × WholePolynomial)) → over_entries (λ d a. φ d (absolute a)) (entry_absolutes es) ≡ over_entries (λ d a. φ d (absolute a)) es
  twice [] = refl
  twice (e ∷ es) = ap₂ (λ (b : WholePolynomial) (G : LinearForm). φ e.0 b +ᶠ G) (absolute_twice e.1) (twice es)

  pub cause_of_sizes : (fail : PolyFail) (E : LinearForm) (kept ts : List (Der × WholePolynomial)) → derivative_terms ts ≡ E.list → kept ≡ kept_absolutes ts
      → IsFormCoefficientCause fail (over_entries (λ d a. φ d (absolute a)) (derivative_terms kept)) → IsFormCoefficientCause fail (form_over φ (absolute_form E))
  cause_of_sizes fail E kept ts all e cause =
      subst (IsFormCoefficientCause fail) (ap (λ us. over_entries (λ d a. φ d (absolute a)) (derivative_terms us)) e ∙ ap (over_entries (λ d a. φ d (absolute a))) (terms_of_sizes ts) ∙ twice (derivative_terms ts) ∙ ap (over_entries (λ d a. φ d (absolute a))) all ∙ sym (bulk_is E)) cause

  pub cause_of_terms : (fail : PolyFail) (E : LinearForm) (ts : List (Der × WholePolynomial)) → derivative_terms ts ≡ E.list
      → IsFormCoefficientCause fail (over_entries (λ d a. φ d (absolute a)) (derivative_terms ts)) → IsFormCoefficientCause fail (form_over φ (absolute_form E))
  cause_of_terms fail E ts all cause = subst (IsFormCoefficientCause fail) (ap (over_entries (λ d a. φ d (absolute a))) all ∙ sym (bulk_is E)) cause

  pub bulk_of_sizes : (E B : LinearForm) (kept ts : List (Der × WholePolynomial)) → derivative_terms ts ≡ E.list → kept ≡ kept_absolutes ts → B ≡ over_entries φ (derivative_terms kept) → B ≡ form_over φ (absolute_form E)
  bulk_of_sizes E B kept ts all e is = is ∙ ap (λ us. over_entries φ (derivative_terms us)) e ∙ ap (over_entries φ) (terms_of_sizes ts) ∙ ap (λ es. over_entries φ (entry_absolutes es)) all ∙ ap (over_entries φ) (sym (list-absolute_form E))
