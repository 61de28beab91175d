-- The steps of applying forms to a polynomial: what is put is bounded by its absolute values, so that a cause at one put is a cause of the whole bulk.
use Rattle.std.specs.Prelude.{◌≡◌, ℕ, zero, suc, ◌+◌, ◌<◌, ◌≤◌, List, [], ◌∷◌, length, take, slice_index_or, ℤ, pos, unsigned_abs}
use Rattle.std.proofs.Common.{refl, sym, ap, ap₂, subst, subst₂, ◌∙◌, arith, get_or, not, T}
use Rattle.std.proofs.lemmas.List.{nil_from_length}
use Rattle.lie_math.specs.Counts.{Derivative}
use Rattle.lie_math.specs.Derivation.{numbers_below}
use Rattle.lie_math.specs.FiniteSum as finite
use Rattle.lie_math.specs.FiniteSumLaws as finite_laws
use Rattle.lie_math.specs.FiniteSumLaws.{plus_assoc, plus_comm, plus_idl, ext, value-none}
use Rattle.lie_math.specs.Limits.{absolute}
use Rattle.lie_math.specs.LinearForm.{forms, LinearForm, no_form, ◌+ᶠ◌, form_term, each_coefficient, times_form}
use Rattle.lie_math.specs.Monomial.{Monomial}
use Rattle.lie_math.specs.PartialDerivative.{partial}
use Rattle.lie_math.specs.Polynomial.{WholePolynomial, terms, coefficient, 0ᴾ, ◌+ᴾ◌, ◌*ᴾ◌, polynomial_of}
use Rattle.lie_math.proofs.CanonicalLists.{canonical_value}
use Rattle.lie_math.proofs.Integer.{unsigned_abs_zero}
use Rattle.lie_math.proofs.TermWise.{derived_list, polynomial_of-derived, absolutes-derived, canonical_derived}
use Rattle.lie_geometry.specs.SymbolicProlongation.{forms_over}
use Rattle.lie_ring.specs.Causes.{IsCause}
use Rattle.lie_ring.specs.declared.failures.PolyFail.{PolyFail}
use Rattle.lie_jet.specs.Derivatives.{derivative_of}
use Rattle.lie_form.specs.DerivativeTerms.{derivative_terms}
use Rattle.lie_form.specs.FormLimits.{IsFormCoefficientCause}
use Rattle.lie_jet.specs.declared.derivative.Der.{Der}
use Rattle.std.proofs.lemmas.List.{length-map}
use Rattle.lie_jet.proofs.PolynomialBounds.{coefficient_absolute, IsBound, plain_bound, absolute_bound}
use Rattle.lie_geometry.proofs.AbsoluteForms.{list_absolutes}
use Rattle.lie_form.proofs.FormBounds.{at, IsFormBound, IsPlain, cause_bound, form_trans, form_plain, form_sum, form_one, form_first, over_bound, fewer_bound, over_entries, entries_bound, front_bound, form_absolute, form_absolute_bound}
use Rattle.lie_form.proofs.FormSteps.{part_cause, put_cause, entries_step, over_absolutes}
use Rattle.lie_determining.specs.AppliedForms.{applied_forms_bulk}
use Rattle.lie_determining.proofs.Bounds.{product_bound, partial_bound}
use Rattle.lie_reduce.proofs.Products.{nonneg_times, cause_times}
use Rattle.lie_ring.proofs.Fronts.{all_taken}

-- ---- a product with one term of a form
abbrev pub times_term : WholePolynomial → Derivative → WholePolynomial → LinearForm
times_term s d a = form_term d (s *ᴾ a)

abbrev pub times_size : WholePolynomial → Derivative → WholePolynomial → LinearForm
times_size s d a = form_term d (absolute s *ᴾ absolute a)

term_bound : (s : WholePolynomial) (d : Derivative) (a : WholePolynomial) → IsFormBound (times_term s d a) (times_size s d a)
term_bound s d a = form_one d (s *ᴾ a) (absolute s *ᴾ absolute a) (product_bound s a)

pub product_cause : (fail : PolyFail) (E : LinearForm) (d : Derivative) (s a : WholePolynomial) → IsCause fail (absolute s *ᴾ absolute a) → IsFormCoefficientCause fail (each_coefficient absolute E +ᶠ times_size s d a)
product_cause fail E d s a cause = part_cause fail E (times_size s d a) d (absolute s *ᴾ absolute a) (form_plain _ _ (term_bound s d a)) cause

pub product_put_cause : (fail : PolyFail) (E : LinearForm) (d : Derivative) (s a p : WholePolynomial) → p ≡ s *ᴾ a → IsCause fail (absolute (at E d) +ᴾ absolute p) → IsFormCoefficientCause fail (each_coefficient absolute E +ᶠ times_size s d a)
product_put_cause fail E d s a p e cause = put_cause fail E d p (absolute s *ᴾ absolute a) (subst (λ q. IsBound q (absolute s *ᴾ absolute a)) (sym e) (product_bound s a)) cause

pub times_sizes : (s : WholePolynomial) (F : LinearForm) → times_form s (each_coefficient absolute F) ≡ over_entries (λ d a. form_term d (s *ᴾ absolute a)) F.list
times_sizes s F = ap (over_entries (times_term s)) (list_absolutes F) ∙ over_absolutes (times_term s) F.list

module _ (s : WholePolynomial) (F : LinearForm) (ts : List (Der × WholePolynomial)) (all : derivative_terms ts ≡ F.list) where
  pub products_start : (E : LinearForm) → E ≡ E +ᶠ over_entries (times_term s) (take 0 (derivative_terms ts))
  products_start E = sym (plus_comm forms E no_form ∙ plus_idl forms E)

  pub products_more : (E G H : LinearForm) (k : ℕ) (x : Der × WholePolynomial) → k < length ts → x ≡ get_or ts k x → G ≡ E +ᶠ over_entries (times_term s) (take k (derivative_terms ts)) → H ≡ G +ᶠ times_term s (derivative_of x.0) x.1
      → H ≡ E +ᶠ over_entries (times_term s) (take (k + 1) (derivative_terms ts))
  products_more E G H k x h e g i = i ∙ ap (λ K. K +ᶠ times_term s (derivative_of x.0) x.1) g ∙ plus_assoc forms E _ _ ∙ ap (λ K. E +ᶠ K) (sym (entries_step (times_term s) ts k x h e))

  pub products_end : (E G : LinearForm) (k : ℕ) → length ts ≤ k → G ≡ E +ᶠ over_entries (times_term s) (take k (derivative_terms ts)) → G ≡ E +ᶠ times_form s F
  products_end E G k h g =
      g ∙ ap (λ es. E +ᶠ over_entries (times_term s) es) (all_taken (derivative_terms ts) k (subst (λ n. n ≤ k) (sym (length-map ts (λ (t : Der × WholePolynomial). (derivative_of t.0, t.1)))) h) ∙ all)

  pub products_cause : (fail : PolyFail) (E G : LinearForm) (k : ℕ) (x : Der × WholePolynomial) → k < length ts → x ≡ get_or ts k x → G ≡ E +ᶠ over_entries (times_term s) (take k (derivative_terms ts))
      → IsFormCoefficientCause fail (each_coefficient absolute G +ᶠ times_size s (derivative_of x.0) x.1) → IsFormCoefficientCause fail (each_coefficient absolute E +ᶠ times_form (absolute s) (each_coefficient absolute F))
  products_cause fail E G k x h e g cause =
      cause_bound fail _ _
      (subst (λ K. IsFormBound (each_coefficient absolute G +ᶠ times_size s (derivative_of x.0) x.1) (each_coefficient absolute E +ᶠ K)) (sym (times_sizes (absolute s) F ∙ ap (over_entries (times_size s)) (sym all)))
      (form_trans _ (each_coefficient absolute E +ᶠ over_entries (times_size s) (take (k + 1) (derivative_terms ts))) _
      (subst (IsFormBound _) (plus_assoc forms (each_coefficient absolute E) _ _ ∙ ap (λ K. each_coefficient absolute E +ᶠ K) (sym (entries_step (times_size s) ts k x h e)))
      (form_sum _ _ _ _ (form_absolute_bound G _ (subst (λ K. IsFormBound K (each_coefficient absolute E +ᶠ over_entries (times_size s) (take k (derivative_terms ts)))) (sym g) (form_sum E _ _ _ (form_absolute E) (entries_bound (times_term s) (times_size s) (term_bound s) (take k (derivative_terms ts))))))
      (form_plain _ _ (term_bound s (derivative_of x.0) x.1))))
      (form_sum _ _ _ _ (form_plain _ _ (form_absolute E)) (front_bound (times_size s) (λ d a. form_plain _ _ (term_bound s d a)) (derivative_terms ts) (k + 1))))) cause

-- ---- a form times a derivative
pub absolute_partial : (w : ℕ) (p : WholePolynomial) → absolute (partial w p) ≡ partial w (absolute p)
unfolding absolute
absolute_partial w p =
    ap absolute (sym (polynomial_of-derived w p.list ∙ ap (partial w) (finite_laws.of_list terms p)))
    ∙ Rattle.lie_math.proofs.Limits.absolute_of (derived_list w p.list) (canonical_derived w p.list p.canonical)
    ∙ ap polynomial_of (absolutes-derived w p.list) ∙ polynomial_of-derived w (Rattle.lie_math.specs.Limits.absolutes p.list)

absolute_apart : (a : WholePolynomial) → ¬ (a ≡ 0ᴾ) → ¬ (absolute a ≡ 0ᴾ)
absolute_apart a apart e = apart (ext terms a 0ᴾ (λ m. unsigned_abs_zero _ (by m) ∙ sym (value-none terms m)))
  where
    by : (m : Monomial) → unsigned_abs (coefficient a m) ≡ 0
    by m = ap unsigned_abs (sym (coefficient_absolute a m) ∙ ap (λ q. coefficient q m) e ∙ value-none terms m)

none_test : finite.is_none terms 0ᴾ ≡ Rattle.std.specs.Prelude.true
unfolding finite.none finite.of
none_test = refl

-- where the form has a term, a cause of the derivative is one of the product
pub slope_cause : (fail : PolyFail) (E F : LinearForm) (w : ℕ) (P : WholePolynomial) → ¬ (length F.list ≡ 0) → IsCause fail (partial w (absolute P)) → IsFormCoefficientCause fail (each_coefficient absolute E +ᶠ times_form (partial w (absolute P)) (each_coefficient absolute F))
slope_cause fail E F w P some cause = subst (λ K. IsFormCoefficientCause fail (each_coefficient absolute E +ᶠ K)) (sym (times_sizes (partial w (absolute P)) F)) (go F.list F.canonical (λ e. some e))
  where
    plain : IsBound (partial w (absolute P)) (partial w (absolute P))
    plain = plain_bound _ (partial_bound w P).plain

    size : Derivative → WholePolynomial → LinearForm
    size d a = form_term d (partial w (absolute P) *ᴾ absolute a)

    each : (d : Derivative) (a : WholePolynomial) → IsPlain (size d a)
    each d a = form_one d _ _ (plain_bound _ (nonneg_times (partial w (absolute P)) (absolute a) plain.plain (absolute_bound a).plain))

    go : (es : List (Derivative × WholePolynomial)) → finite.IsCanonical forms es → ¬ (length es ≡ 0) → IsFormCoefficientCause fail (each_coefficient absolute E +ᶠ over_entries size es)
    go [] c some = absurd (some refl)
    go (e ∷ es) c some =
        part_cause fail E (over_entries size (e ∷ es)) e.0 (partial w (absolute P) *ᴾ absolute e.1) (form_first _ _ (each e.0 e.1) (entries_bound size size each es))
        (cause_times fail (partial w (absolute P)) (absolute e.1) plain.plain (record { plain = (absolute_bound e.1).plain; apart = absolute_apart e.1 apart }) cause)
      where
        apart : ¬ (e.1 ≡ 0ᴾ)
        apart z = subst (λ b. T (not b)) (ap (finite.is_none terms) z ∙ none_test) (canonical_value forms e es c)

pub same_slope : (fail : PolyFail) (E F : LinearForm) (w : ℕ) (P s : WholePolynomial) → s ≡ partial w P → IsFormCoefficientCause fail (each_coefficient absolute E +ᶠ times_form (absolute s) (each_coefficient absolute F))
    → IsFormCoefficientCause fail (each_coefficient absolute E +ᶠ times_form (partial w (absolute P)) (each_coefficient absolute F))
same_slope fail E F w P s e cause = subst (λ t. IsFormCoefficientCause fail (each_coefficient absolute E +ᶠ times_form t (each_coefficient absolute F))) (ap absolute e ∙ absolute_partial w P) cause

pub no_products : (E F : LinearForm) (s : WholePolynomial) → length F.list ≡ 0 → E ≡ E +ᶠ times_form s F
no_products E F s none = sym (plus_comm forms E (times_form s F) ∙ ap (λ es. over_entries (times_term s) es +ᶠ E) (nil_from_length F.list none) ∙ plus_idl forms E)

-- ---- the forms, one by one
module _ (Fs : List LinearForm) (P : WholePolynomial) where
  abbrev multiple : ℕ → LinearForm
  multiple w = times_form (partial w P) (slice_index_or Fs w no_form)

  abbrev multiple_size : ℕ → LinearForm
  multiple_size w = times_form (partial w (absolute P)) (each_coefficient absolute (slice_index_or Fs w no_form))

  multiple_bound : (w : ℕ) → IsFormBound (multiple w) (multiple_size w)
  multiple_bound w =
      let F = slice_index_or Fs w no_form in
      subst (IsFormBound (multiple w)) (sym (times_sizes (absolute (partial w P)) F) ∙ ap (λ t. times_form t (each_coefficient absolute F)) (absolute_partial w P))
      (entries_bound (times_term (partial w P)) (times_size (partial w P)) (term_bound (partial w P)) F.list)

  pub forms_more : (G H : LinearForm) (k : ℕ) (F : LinearForm) → F ≡ slice_index_or Fs k no_form → G ≡ forms_over (numbers_below k) multiple → H ≡ G +ᶠ times_form (partial k P) F → H ≡ forms_over (numbers_below (k + 1)) multiple
  forms_more G H k F e g h = h ∙ ap₂ (λ K L. K +ᶠ times_form (partial k P) L) g e ∙ plus_comm forms _ _ ∙ ap (λ n. forms_over (numbers_below n) multiple) (let q : suc k ≡ k + 1 = omega arith in q)

  pub forms_cause : (fail : PolyFail) (G : LinearForm) (k : ℕ) (F : LinearForm) → k < length Fs → F ≡ slice_index_or Fs k no_form → G ≡ forms_over (numbers_below k) multiple
      → IsFormCoefficientCause fail (each_coefficient absolute G +ᶠ times_form (partial k (absolute P)) (each_coefficient absolute F)) → IsFormCoefficientCause fail (applied_forms_bulk Fs P)
  forms_cause fail G k F h e g cause =
      cause_bound fail _ _
      (form_trans _ (forms_over (numbers_below (suc k)) multiple_size) _
      (subst₂ IsFormBound (ap (λ L. each_coefficient absolute G +ᶠ times_form (partial k (absolute P)) (each_coefficient absolute L)) (sym e)) (plus_comm forms _ _)
      (form_sum (each_coefficient absolute G) (multiple_size k) (forms_over (numbers_below k) multiple_size) (multiple_size k) (form_absolute_bound G _ (subst (λ K. IsFormBound K (forms_over (numbers_below k) multiple_size)) (sym g) (over_bound multiple multiple_size (numbers_below k) multiple_bound)))
      (form_plain _ _ (multiple_bound k))))
      (fewer_bound multiple_size (λ w. form_plain _ _ (multiple_bound w)) (suc k) (length Fs) (let q : suc k ≤ length Fs = omega arith in q))) cause
