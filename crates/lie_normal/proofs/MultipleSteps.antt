-- The steps of sums of multiples of forms.
use Rattle.std.specs.Prelude.{◌≡◌, ℕ, ◌+◌, ◌<◌, List, [], ◌∷◌, length, take}
use Rattle.std.proofs.Common.{refl, sym, ap, ap₂, subst, ◌∙◌, get_or}
use Rattle.lie_math.specs.Counts.{Derivative}
use Rattle.lie_math.specs.FiniteSum as finite
use Rattle.lie_math.specs.FiniteSumLaws.{plus_assoc, plus_idl}
use Rattle.lie_math.specs.Limits.{absolute}
use Rattle.lie_math.specs.LinearForm.{forms, LinearForm, no_form, ◌+ᶠ◌, each_coefficient, times_form}
use Rattle.lie_math.specs.Polynomial.{WholePolynomial, ◌+ᴾ◌, ◌*ᴾ◌}
use Rattle.lie_ring.specs.Causes.{IsCause}
use Rattle.lie_ring.specs.declared.failures.PolyFail.{PolyFail}
use Rattle.lie_jet.specs.Derivatives.{derivative_of}
use Rattle.lie_jet.specs.declared.derivative.Der.{Der}
use Rattle.lie_jet.proofs.Absolutes.{absolute_twice}
use Rattle.lie_jet.proofs.PolynomialBounds.{IsBound}
use Rattle.lie_form.specs.DerivativeTerms.{derivative_terms}
use Rattle.lie_form.specs.FormLimits.{IsFormCoefficientCause}
use Rattle.lie_form.proofs.FormBounds.{at, IsFormBound, IsPlain, cause_bound, form_plain, form_sum, form_one, form_first, form_absolute, over_entries, entries_bound, front_bound}
use Rattle.lie_geometry.proofs.AbsoluteForms.{entry_absolutes}
use Rattle.lie_form.proofs.FormParts.{kept_absolutes}
use Rattle.lie_form.proofs.FormSteps.{part_cause, put_cause, second_cause, entries_step, over_absolutes}
use Rattle.lie_steps.specs.Bulks.{absolute_form}
use Rattle.lie_normal.specs.TermSums.{multiple_term}
use Rattle.lie_normal.proofs.AbsoluteForms.{list-absolute_form}
use Rattle.lie_normal.proofs.Bounds.{terms_of_sizes}
use Rattle.lie_normal.proofs.Products.{times_bound}

-- ---- one term
abbrev pub with_sizes : WholePolynomial → Derivative → WholePolynomial → LinearForm
with_sizes p d a = multiple_term (absolute p) d (absolute a)

pub term_bound : (p : WholePolynomial) (d : Derivative) (a : WholePolynomial) → IsFormBound (multiple_term p d a) (with_sizes p d a)
term_bound p d a = form_one d (p *ᴾ a) (absolute p *ᴾ absolute a) (times_bound p a)

term_plain : (p : WholePolynomial) (d : Derivative) (a : WholePolynomial) → IsPlain (with_sizes p d a)
term_plain p d a = form_plain _ _ (term_bound p d a)

pub product_cause : (p : WholePolynomial) (d : Derivative) (a : WholePolynomial) (fail : PolyFail) (E : LinearForm) → IsCause fail (absolute p *ᴾ absolute a) → IsFormCoefficientCause fail (each_coefficient absolute E +ᶠ with_sizes p d a)
product_cause p d a fail E cause = part_cause fail E (with_sizes p d a) d (absolute p *ᴾ absolute a) (term_plain p d a) cause

pub product_put_cause : (p : WholePolynomial) (d : Derivative) (a : WholePolynomial) (fail : PolyFail) (E : LinearForm) (t : WholePolynomial) → t ≡ p *ᴾ a → IsCause fail (absolute (at E d) +ᴾ absolute t) → IsFormCoefficientCause fail (each_coefficient absolute E +ᶠ with_sizes p d a)
product_put_cause p d a fail E t e cause = put_cause fail E d t (absolute p *ᴾ absolute a) (subst (λ q. IsBound q (absolute p *ᴾ absolute a)) (sym e) (times_bound p a)) cause

-- ---- the terms one after the other
pub multiple_cause : (p : WholePolynomial) (fail : PolyFail) (S G : LinearForm) (ts : List (Der × WholePolynomial)) (k : ℕ) (x : Der × WholePolynomial) → k < length ts → x ≡ get_or ts k x → G ≡ S +ᶠ over_entries (multiple_term p) (take k (derivative_terms ts))
    → IsFormCoefficientCause fail (each_coefficient absolute G +ᶠ with_sizes p (derivative_of x.0) x.1) → IsFormCoefficientCause fail (each_coefficient absolute S +ᶠ over_entries (with_sizes p) (derivative_terms ts))
multiple_cause p fail S G ts k x h e is cause =
    cause_bound fail _ _
    (form_sum _ _ _ _ (form_plain _ _ (form_absolute S)) (front_bound (with_sizes p) (term_plain p) (derivative_terms ts) (k + 1)))
    (subst (λ K. IsFormCoefficientCause fail (each_coefficient absolute S +ᶠ K)) (sym (entries_step (with_sizes p) ts k x h e))
    (second_cause fail S (over_entries (multiple_term p) (take k (derivative_terms ts))) (over_entries (with_sizes p) (take k (derivative_terms ts))) G (with_sizes p (derivative_of x.0) x.1) is (entries_bound (multiple_term p) (with_sizes p) (term_bound p) (take k (derivative_terms ts))) (term_plain p (derivative_of x.0) x.1) cause))

pub multiple_step : (p : WholePolynomial) (S G H : LinearForm) (ts : List (Der × WholePolynomial)) (k : ℕ) (x : Der × WholePolynomial) → k < length ts → x ≡ get_or ts k x → G ≡ S +ᶠ over_entries (multiple_term p) (take k (derivative_terms ts))
    → H ≡ G +ᶠ multiple_term p (derivative_of x.0) x.1 → H ≡ S +ᶠ over_entries (multiple_term p) (take (k + 1) (derivative_terms ts))
multiple_step p S G H ts k x h e is more =
    more ∙ ap (λ K. K +ᶠ multiple_term p (derivative_of x.0) x.1) is ∙ plus_assoc forms S (over_entries (multiple_term p) (take k (derivative_terms ts))) (multiple_term p (derivative_of x.0) x.1)
    ∙ ap (λ K. S +ᶠ K) (sym (entries_step (multiple_term p) ts k x h e))

-- ---- both
no_sizes : (K : LinearForm) → each_coefficient absolute no_form +ᶠ K ≡ K
unfolding finite.none finite.of
no_sizes K = plus_idl forms K

module _ (p q : WholePolynomial) (es fs : List (Derivative × WholePolynomial)) where
  pub first_cause : (fail : PolyFail) → IsFormCoefficientCause fail (each_coefficient absolute no_form +ᶠ over_entries (with_sizes p) es) → IsFormCoefficientCause fail (over_entries (with_sizes p) es +ᶠ over_entries (with_sizes q) fs)
  first_cause fail cause = cause_bound fail _ _ (form_first _ _ (entries_bound (with_sizes p) (with_sizes p) (term_plain p) es) (entries_bound (with_sizes q) (with_sizes q) (term_plain q) fs)) (subst (IsFormCoefficientCause fail) (no_sizes _) cause)

  pub other_cause : (fail : PolyFail) (G : LinearForm) → G ≡ no_form +ᶠ over_entries (multiple_term p) es → IsFormCoefficientCause fail (each_coefficient absolute G +ᶠ over_entries (with_sizes q) fs) → IsFormCoefficientCause fail (over_entries (with_sizes p) es +ᶠ over_entries (with_sizes q) fs)
  other_cause fail G e cause =
      subst (IsFormCoefficientCause fail) (no_sizes _)
      (second_cause fail no_form (over_entries (multiple_term p) es) (over_entries (with_sizes p) es) G (over_entries (with_sizes q) fs) e (entries_bound (multiple_term p) (with_sizes p) (term_bound p) es) (entries_bound (with_sizes q) (with_sizes q) (term_plain q) fs) cause)

  pub both_sum : (G H : LinearForm) → G ≡ no_form +ᶠ over_entries (multiple_term p) es → H ≡ G +ᶠ over_entries (multiple_term q) fs → H ≡ over_entries (multiple_term p) es +ᶠ over_entries (multiple_term q) fs
  both_sum G H e h = h ∙ ap (λ K. K +ᶠ over_entries (multiple_term q) fs) (e ∙ plus_idl forms (over_entries (multiple_term p) es))

-- ---- the bulk
pub bulk_part : (p : WholePolynomial) (E : LinearForm) → times_form (absolute p) (absolute_form E) ≡ over_entries (with_sizes p) E.list
bulk_part p E = ap (over_entries (multiple_term (absolute p))) (list-absolute_form E) ∙ over_absolutes (multiple_term (absolute p)) E.list

-- with absolute values already
again : (s : WholePolynomial) (es : List (Derivative × WholePolynomial)) → over_entries (with_sizes s) (entry_absolutes es) ≡ over_entries (with_sizes s) es
again s [] = refl
again s (e ∷ es) = ap₂ (λ (b : WholePolynomial) (G : LinearForm). multiple_term (absolute s) e.0 b +ᶠ G) (absolute_twice e.1) (again s es)

pub bulk_twice : (p s : WholePolynomial) (E : LinearForm) (ts kept : List (Der × WholePolynomial)) → s ≡ absolute p → derivative_terms ts ≡ E.list → kept ≡ kept_absolutes ts → over_entries (with_sizes s) (derivative_terms kept) ≡ times_form (absolute p) (absolute_form E)
bulk_twice p s E ts kept e all k =
    ap (λ us. over_entries (with_sizes s) (derivative_terms us)) k ∙ ap (over_entries (with_sizes s)) (terms_of_sizes ts ∙ ap entry_absolutes all) ∙ again s E.list
    ∙ ap (λ (r : WholePolynomial). over_entries (λ d a. multiple_term r d (absolute a)) E.list) (ap absolute e ∙ absolute_twice p) ∙ sym (bulk_part p E)

pub bulk_value : (p s : WholePolynomial) (E : LinearForm) (ts kept : List (Der × WholePolynomial)) → s ≡ absolute p → derivative_terms ts ≡ E.list → kept ≡ kept_absolutes ts → over_entries (multiple_term s) (derivative_terms kept) ≡ times_form (absolute p) (absolute_form E)
bulk_value p s E ts kept e all k =
    ap (λ us. over_entries (multiple_term s) (derivative_terms us)) k ∙ ap (over_entries (multiple_term s)) (terms_of_sizes ts ∙ ap entry_absolutes all ∙ sym (list-absolute_form E))
    ∙ ap (λ (r : WholePolynomial). over_entries (multiple_term r) (absolute_form E).list) e

-- the terms as they are
pub plain_bulk : (p : WholePolynomial) (E : LinearForm) (ts : List (Der × WholePolynomial)) → derivative_terms ts ≡ E.list → over_entries (with_sizes p) (derivative_terms ts) ≡ times_form (absolute p) (absolute_form E)
plain_bulk p E ts all = ap (over_entries (with_sizes p)) all ∙ sym (bulk_part p E)
