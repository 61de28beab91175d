-- The reduction of a form, coefficient by coefficient.
use Rattle.std.specs.Prelude.{◌≡◌, ℕ, ◌+◌, ◌<◌, ◌≤◌, max, List, [], ◌∷◌, ◌++◌, length, take, map}
use Rattle.std.proofs.Common.{refl, sym, ap, ap₂, subst, ◌∙◌, get_or}
use Rattle.std.proofs.lemmas.List.{map_push, length-map}
use mathlib.Core.Path.{fun_ext}
use Rattle.lie_math.specs.Counts.{Derivative}
use Rattle.lie_math.specs.Limits.{absolute}
use Rattle.lie_math.specs.LinearForm.{LinearForm, ◌+ᶠ◌, form_term, each_coefficient}
use Rattle.lie_math.specs.Natural.{maxima}
use Rattle.lie_math.specs.Polynomial.{WholePolynomial, ◌+ᴾ◌}
use Rattle.lie_math.specs.Powers.{degree_in}
use Rattle.lie_math.specs.SortedSum.{sum_of_entries}
use Rattle.lie_geometry.specs.Coordinates.{Space}
use Rattle.lie_geometry.specs.DeterminingEquations.{symbolic_reduced}
use Rattle.lie_geometry.specs.SolvedEquations.{SolvedEquation, reduced_by}
use Rattle.lie_ring.specs.Causes.{IsCause}
use Rattle.lie_ring.specs.declared.failures.PolyFail.{PolyFail}
use Rattle.lie_jet.specs.Derivatives.{derivative_of}
use Rattle.lie_form.specs.DerivativeTerms.{derivative_terms}
use Rattle.lie_form.specs.FormLimits.{IsFormCause, IsFormCoefficientCause}
use Rattle.lie_jet.specs.declared.derivative.Der.{Der}
use Rattle.lie_jet.proofs.Absolutes.{absolute_twice}
use Rattle.lie_jet.proofs.ListPlaces.{take_map}
use Rattle.lie_jet.proofs.PolynomialBounds.{IsBound}
use Rattle.lie_geometry.proofs.AbsoluteForms.{entry_absolutes, list_absolutes}
use Rattle.lie_form.proofs.FormBounds.{at, IsFormBound, cause_bound, form_trans, form_plain, form_sum, form_one, over_entries, entries_bound, front_bound, form_absolute_bound}
use Rattle.lie_form.proofs.FormCauses.{coefficient_cause}
use Rattle.lie_form.proofs.FormSteps.{part_cause, put_cause, entries_step, over_absolutes}
use Rattle.lie_reduce.proofs.GreatestExponents.{degree_absolute}
use Rattle.lie_reduce.specs.Bulks.{absolute_equations, reduction_bulk_by}
use Rattle.lie_solved.specs.declared.solved.LeadRule.{LeadRule}
use Rattle.lie_reduce.specs.ReducedTerms.{exponents_at}
use Rattle.lie_reduce.specs.Reductions.{greatest_exponent}
use Rattle.lie_determining.specs.SymbolicBulks.{degree_in_form, symbolic_reduction_bulk}
use Rattle.lie_reduce.proofs.AbsoluteRules.{absolute-equations}
use Rattle.lie_ring.proofs.Fronts.{all_taken}

-- ---- the greatest exponents
pub form_exponents : (E : LinearForm) → ◌≡◌ {A = ℕ → ℕ} (greatest_exponent (map (λ t. t.1) E.list)) (λ w. degree_in_form w E)
form_exponents E = fun_ext (λ w. go w E.list)
  where
    go : (w : ℕ) (es : List (Derivative × WholePolynomial)) → greatest_exponent (map (λ t. t.1) es) w ≡ sum_of_entries maxima (λ d a. degree_in w a) es
    go w [] = refl
    go w (e ∷ es) = ap (max (degree_in w e.1)) (go w es)

sizes_degree : (w : ℕ) (E : LinearForm) → degree_in_form w (each_coefficient absolute E) ≡ degree_in_form w E
sizes_degree w E = ap (sum_of_entries maxima (λ d a. degree_in w a)) (list_absolutes E) ∙ go E.list
  where
    go : (es : List (Derivative × WholePolynomial)) → sum_of_entries maxima (λ d a. degree_in w a) (entry_absolutes es) ≡ sum_of_entries maxima (λ d a. degree_in w a) es
    go [] = refl
    go (e ∷ es) = ap₂ max (degree_absolute w e.1) (go es)

module _ (rs qs : List SolvedEquation) (sized : qs ≡ absolute_equations rs) (E A : LinearForm) (sizes : A ≡ each_coefficient absolute E) where
  same_exponents : ◌≡◌ {A = ℕ → ℕ} (λ w. degree_in_form w A) (λ w. degree_in_form w E)
  same_exponents = fun_ext (λ w. ap (degree_in_form w) sizes ∙ sizes_degree w E)

  -- the reduction of the absolute values by the rules with absolute values is the bulk
  pub bulk_is : symbolic_reduced qs A ≡ symbolic_reduction_bulk rs E
  bulk_is =
      ap (λ x. each_coefficient (reduced_by x (λ w. degree_in_form w A)) A) sized ∙ ap (λ e. each_coefficient (reduced_by (absolute_equations rs) e) A) same_exponents
      ∙ ap (λ F. over_entries (λ d a. form_term d (reduced_by (absolute_equations rs) (λ w. degree_in_form w E) a)) F) (ap (λ (F : LinearForm). F.list) sizes ∙ list_absolutes E)
      ∙ over_absolutes (λ d a. form_term d (reduced_by (absolute_equations rs) (λ w. degree_in_form w E) a)) E.list

  -- and it is its own bulk
  pub same_bulk : symbolic_reduction_bulk qs A ≡ symbolic_reduction_bulk rs E
  same_bulk =
      ap (λ x. each_coefficient (reduction_bulk_by x (λ w. degree_in_form w A)) A) sized ∙ ap (λ e. each_coefficient (reduction_bulk_by (absolute_equations rs) e) A) same_exponents
      ∙ ap (λ x. each_coefficient (λ a. reduced_by x (λ w. degree_in_form w E) (absolute a)) A) (absolute-equations rs)
      ∙ ap (λ F. over_entries (λ d a. form_term d (reduced_by (absolute_equations rs) (λ w. degree_in_form w E) (absolute a))) F) (ap (λ (F : LinearForm). F.list) sizes ∙ list_absolutes E)
      ∙ over_absolutes (λ d a. form_term d (reduced_by (absolute_equations rs) (λ w. degree_in_form w E) (absolute a))) E.list
      ∙ ap (λ φ. over_entries φ E.list) (fun_ext (λ d. fun_ext (λ a. ap (λ p. form_term d (reduced_by (absolute_equations rs) (λ w. degree_in_form w E) p)) (absolute_twice a))))

  pub bulk_cause : (fail : PolyFail) → IsFormCoefficientCause fail (symbolic_reduction_bulk qs A) → IsFormCause fail (symbolic_reduction_bulk rs E)
  bulk_cause fail cause = coefficient_cause fail _ (subst (IsFormCoefficientCause fail) same_bulk cause)

-- ---- term by term, where each reduction is bounded by its bulk
-- what is put for a term
abbrev pub reduced_put : List SolvedEquation → (ℕ → ℕ) → Derivative → WholePolynomial → LinearForm
reduced_put rs e d a = form_term d (reduced_by rs e a)

module _ (rs : List SolvedEquation) (e : ℕ → ℕ) (bounded : (a : WholePolynomial) → IsBound (reduced_by rs e a) (reduction_bulk_by rs e a)) where
  abbrev reduced_term : Derivative → WholePolynomial → LinearForm
  reduced_term d a = reduced_put rs e d a

  abbrev pub bulk_term : Derivative → WholePolynomial → LinearForm
  bulk_term d a = form_term d (reduction_bulk_by rs e a)

  each_bound : (d : Derivative) (a : WholePolynomial) → IsFormBound (reduced_term d a) (bulk_term d a)
  each_bound d a = form_one d _ _ (bounded a)

  pub reduced_cause : (fail : PolyFail) (E : LinearForm) (d : Derivative) (a : WholePolynomial) → IsCause fail (reduction_bulk_by rs e a) → IsFormCoefficientCause fail (each_coefficient absolute E +ᶠ bulk_term d a)
  reduced_cause fail E d a cause = part_cause fail E (bulk_term d a) d (reduction_bulk_by rs e a) (form_plain _ _ (each_bound d a)) cause

  pub reduced_put_cause : (fail : PolyFail) (E : LinearForm) (d : Derivative) (a p : WholePolynomial) → p ≡ reduced_by rs e a → IsCause fail (absolute (at E d) +ᴾ absolute p) → IsFormCoefficientCause fail (each_coefficient absolute E +ᶠ bulk_term d a)
  reduced_put_cause fail E d a p q cause = put_cause fail E d p (reduction_bulk_by rs e a) (subst (λ x. IsBound x (reduction_bulk_by rs e a)) (sym q) (bounded a)) cause

  module _ (F : LinearForm) (ts : List (Der × WholePolynomial)) (all : derivative_terms ts ≡ F.list) where
    pub terms_more : (G H : LinearForm) (k : ℕ) (x : Der × WholePolynomial) → k < length ts → x ≡ get_or ts k x → G ≡ over_entries reduced_term (take k (derivative_terms ts)) → H ≡ G +ᶠ reduced_term (derivative_of x.0) x.1 → H ≡ over_entries reduced_term (take (k + 1) (derivative_terms ts))
    terms_more G H k x h is g i = i ∙ ap (λ K. K +ᶠ reduced_term (derivative_of x.0) x.1) g ∙ sym (entries_step reduced_term ts k x h is)

    pub terms_end : (G : LinearForm) (k : ℕ) → length ts ≤ k → G ≡ over_entries reduced_term (take k (derivative_terms ts)) → G ≡ each_coefficient (reduced_by rs e) F
    terms_end G k h g = g ∙ ap (over_entries reduced_term) (all_taken (derivative_terms ts) k (subst (λ n. n ≤ k) (sym (length-map ts (λ (t : Der × WholePolynomial). (derivative_of t.0, t.1)))) h) ∙ all)

    pub terms_cause : (fail : PolyFail) (G : LinearForm) (k : ℕ) (x : Der × WholePolynomial) → k < length ts → x ≡ get_or ts k x → G ≡ over_entries reduced_term (take k (derivative_terms ts))
        → IsFormCoefficientCause fail (each_coefficient absolute G +ᶠ bulk_term (derivative_of x.0) x.1) → IsFormCoefficientCause fail (each_coefficient (reduction_bulk_by rs e) F)
    terms_cause fail G k x h is g cause =
        cause_bound fail _ _
        (subst (IsFormBound _) (ap (over_entries bulk_term) all)
        (form_trans _ (over_entries bulk_term (take (k + 1) (derivative_terms ts))) _
        (subst (IsFormBound _) (sym (entries_step bulk_term ts k x h is))
        (form_sum _ _ _ _ (form_absolute_bound G _ (subst (λ K. IsFormBound K (over_entries bulk_term (take k (derivative_terms ts)))) (sym g) (entries_bound reduced_term bulk_term each_bound (take k (derivative_terms ts)))))
        (form_plain _ _ (each_bound (derivative_of x.0) x.1))))
        (front_bound bulk_term (λ d a. form_plain _ _ (each_bound d a)) (derivative_terms ts) (k + 1)))) cause

  pub form_bound : (F : LinearForm) → IsFormBound (each_coefficient (reduced_by rs e) F) (each_coefficient (reduction_bulk_by rs e) F)
  form_bound F = entries_bound reduced_term bulk_term each_bound F.list

-- ---- what the reduction starts from
pub coefficients_more : (ts : List (Der × WholePolynomial)) (k : ℕ) (x : Der × WholePolynomial) (made new : List WholePolynomial) (p : WholePolynomial) → k < length ts → x ≡ get_or ts k x → made ≡ map (λ t. t.1) (take k (derivative_terms ts)) → new ≡ made ++ p ∷ [] → p ≡ x.1
    → new ≡ map (λ t. t.1) (take (k + 1) (derivative_terms ts))
coefficients_more ts k x made new p h is e put same =
    put ∙ ap₂ (λ xs q. xs ++ q ∷ []) e same ∙ sym (map_push (λ (t : Derivative × WholePolynomial). t.1) (take k (derivative_terms ts)) (derivative_of x.0, x.1))
    ∙ ap (map (λ (t : Derivative × WholePolynomial). t.1)) (sym (take_map (λ (t : Der × WholePolynomial). (derivative_of t.0, t.1)) ts k x h is))

pub exponents_are : (S : Space) (rules : List LeadRule) (gs es : List ℕ) (Ps Qs : List WholePolynomial) (E : LinearForm) → es ≡ exponents_at S rules (greatest_exponent Qs) → Qs ≡ Ps → Ps ≡ map (λ t. t.1) E.list → gs ≡ es → gs ≡ exponents_at S rules (λ w. degree_in_form w E)
exponents_are S rules gs es Ps Qs E e f h g = g ∙ e ∙ ap (λ xs. exponents_at S rules (greatest_exponent xs)) (f ∙ h) ∙ ap (exponents_at S rules) (form_exponents E)
