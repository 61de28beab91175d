-- The steps of the total derivative of a form: what is put is bounded, so that a cause at one put is a cause of the whole bulk.
use Rattle.std.specs.Prelude.{◌≡◌, ℕ, zero, suc, ◌+◌, ◌<◌, ◌≤◌, Bool, true, false, List, [], ◌∷◌, length, take, slice_index, replicate, ltb, pos, unsigned_abs}
use Rattle.std.specs.List.{AllByRecursion as Every}
use Rattle.std.specs.Cmp.{tied_itself}
use Rattle.std.proofs.lemmas.List.{length-map}
use Rattle.std.proofs.lemmas.List.Elements.{All-from_recursion}
use Rattle.std.proofs.Common.{refl, sym, ap, ap₂, subst, subst₂, ◌∙◌, arith, get_or, cond, is_eq, ltb-true, ltb-false}
use mathlib.Core.Path.{fun_ext}
use Rattle.lie_math.specs.Canonical.{sum_of_entries-append, idr}
use Rattle.lie_math.specs.Counts.{Derivative, order, raise, raised}
use Rattle.lie_math.specs.Derivation.{numbers_below, is_below}
use Rattle.lie_math.specs.DerivativeOrder.{derivative_cmp_total}
use Rattle.lie_math.specs.FiniteSumLaws as finite_laws
use Rattle.lie_math.specs.FiniteSumLaws.{plus_assoc, plus_comm, value-plus, value-term}
use Rattle.lie_math.specs.Limits.{absolute}
use Rattle.lie_math.specs.LinearForm.{forms, LinearForm, ◌+ᶠ◌, form_term, each_coefficient}
use Rattle.lie_math.specs.Polynomial.{WholePolynomial, 0ᴾ, ◌+ᴾ◌, ◌*ᴾ◌}
use Rattle.lie_math.specs.Variables.{IsIn}
use Rattle.lie_math.proofs.Counts.{order_trimmed}
use Rattle.lie_math.proofs.FiniteSum.{entries_of}
use Rattle.lie_geometry.specs.Coordinates.{Space, coordinates_up_to}
use Rattle.lie_geometry.specs.Prolongation.{jet_variable, total_derivative}
use Rattle.lie_geometry.specs.SymbolicProlongation.{forms_over, symbolic_total}
use Rattle.lie_ring.specs.Causes.{IsCause}
use Rattle.lie_ring.specs.declared.failures.PolyFail.{PolyFail}
use Rattle.lie_ring.specs.declared.failures.PolyFail.TheVariants.{Past, NoMemory}
use Rattle.lie_poly.specs.Failures.{IsStarved}
use Rattle.lie_poly.proofs.SumSteps.{cause_covered}
use Rattle.lie_jet.specs.Derivatives.{derivative_of}
use Rattle.lie_form.specs.DerivativeTerms.{derivative_terms}
use Rattle.lie_form.specs.FormLimits.{IsFormCoefficientCause, HasJetsUpTo, HasOrdersUpTo}
use Rattle.lie_form.specs.FormTotals.{dependent_term, derived_term, total_of_term}
use Rattle.lie_jet.specs.Jets.{IsSmall}
use Rattle.lie_jet.specs.declared.derivative.Der.{Der}
use Rattle.lie_jet.proofs.ListPlaces.{take_map, get_map}
use Rattle.lie_jet.proofs.PolynomialBounds.{coefficient_absolute, absolute_none, IsBound, sum_bound, plain_bound, covered_absolute, absolute_bound}
use Rattle.lie_geometry.proofs.AbsoluteForms.{entry_absolutes, list_absolutes}
use Rattle.lie_form.proofs.FormBounds.{at, IsFormBound, IsPlain, cause_bound, form_trans, form_plain, form_sum, form_one, form_first, form_second, over_bound, fewer_bound, over_entries, entries_bound, front_bound, at_absolute, form_absolute_twice, form_absolute, form_absolute_bound}
use Rattle.lie_jet.proofs.TotalBounds.{absolute_variable, total_bound}
use Rattle.lie_form.proofs.FormTotalBounds.{dependent_bound, derived_bound, term_total_bound}

-- ---- counts
index_order : (i : ℕ) (xs : List ℕ) → slice_index xs i ≤ order xs
index_order i [] = omega arith
index_order zero (x ∷ xs) = omega arith
index_order (suc i) (x ∷ xs) = omega (arith, index_order i xs)

pub count_low : (x : Der) (i : ℕ) → order (derivative_of x).counts ≤ 63 → slice_index x.counts i < 255
count_low x i h = let e = order_trimmed x.counts in let k = index_order i x.counts in omega arith

-- ---- what holds of the coefficients holds of those with absolute values
pub jets_absolute : (S : Space) (n : ℕ) (E : LinearForm) → HasJetsUpTo S n E → HasJetsUpTo S n (each_coefficient absolute E)
jets_absolute S n E h d = subst (IsIn (is_below (coordinates_up_to S n))) (sym (at_absolute E d)) (λ v out m apart. h d v out m (λ z. apart (coefficient_absolute (at E d) m ∙ ap (λ y. pos (unsigned_abs y)) z)))

pub orders_absolute : (n : ℕ) (E : LinearForm) → HasOrdersUpTo n E → HasOrdersUpTo n (each_coefficient absolute E)
orders_absolute n E h d past = at_absolute E d ∙ ap absolute (h d past) ∙ absolute_none

-- ---- one put
pub at_term : (d : Derivative) (b : WholePolynomial) → at (form_term d b) d ≡ b
at_term d b = value-term forms d b d ∙ ap (λ t. cond (is_eq t) b 0ᴾ) (tied_itself derivative_cmp_total d)

-- want of memory is always a cause
pub starved_cause : (fail : PolyFail) (B : LinearForm) → IsStarved fail → IsFormCoefficientCause fail B
starved_cause (Past kind) B h = absurd h
starved_cause NoMemory B h = (record { unknown = 0; counts = [] }, tt)

-- what is put has a cause
pub part_cause : (fail : PolyFail) (E Y : LinearForm) (d : Derivative) (b : WholePolynomial) → IsFormBound (form_term d b) Y → IsCause fail b → IsFormCoefficientCause fail (each_coefficient absolute E +ᶠ Y)
part_cause fail E Y d b h cause = cause_bound fail (form_term d b) (each_coefficient absolute E +ᶠ Y) (form_trans _ Y _ h (form_second (each_coefficient absolute E) Y (form_plain _ _ (form_absolute E)) (form_plain _ _ h))) (d, subst (IsCause fail) (sym (at_term d b)) cause)

-- the sum has a cause
pub put_cause : (fail : PolyFail) (E : LinearForm) (d : Derivative) (p b : WholePolynomial) → IsBound p b → IsCause fail (absolute (at E d) +ᴾ absolute p) → IsFormCoefficientCause fail (each_coefficient absolute E +ᶠ form_term d b)
put_cause fail E d p b h cause = (d, subst (IsCause fail) (sym (value-plus forms (each_coefficient absolute E) (form_term d b) d ∙ ap₂ ◌+ᴾ◌ (at_absolute E d) (at_term d b))) (cause_covered fail (absolute (at E d) +ᴾ absolute p) (absolute (at E d) +ᴾ b) (sum_bound (absolute (at E d)) (absolute p) (absolute (at E d)) b (plain_bound (absolute (at E d)) (absolute_bound (at E d)).plain) (covered_absolute p b h)).covered cause))

-- the first of two parts, and the second
pub first_cause : (fail : PolyFail) (E Y R : LinearForm) → IsPlain Y → IsPlain R → IsFormCoefficientCause fail (each_coefficient absolute E +ᶠ Y) → IsFormCoefficientCause fail (each_coefficient absolute E +ᶠ (Y +ᶠ R))
first_cause fail E Y R h k cause = cause_bound fail _ _ (form_sum _ Y _ (Y +ᶠ R) (form_plain _ _ (form_absolute E)) (form_first Y R h k)) cause

pub second_cause : (fail : PolyFail) (E X B G Y : LinearForm) → G ≡ E +ᶠ X → IsFormBound X B → IsPlain Y → IsFormCoefficientCause fail (each_coefficient absolute G +ᶠ Y) → IsFormCoefficientCause fail (each_coefficient absolute E +ᶠ (B +ᶠ Y))
second_cause fail E X B G Y e h k cause =
    subst (IsFormCoefficientCause fail) (plus_assoc forms (each_coefficient absolute E) B Y)
    (cause_bound fail _ _ (form_sum _ Y (each_coefficient absolute E +ᶠ B) Y (form_absolute_bound G (each_coefficient absolute E +ᶠ B) (subst (λ K. IsFormBound K (each_coefficient absolute E +ᶠ B)) (sym e) (form_sum E X _ B (form_absolute E) h))) k) cause)

module _ (S : Space) (small : IsSmall S) (i : ℕ) (inside : i < S.p) (d : Derivative) (a : WholePolynomial) where
  total_one : IsFormBound (form_term d (total_derivative S i a)) (form_term d (total_derivative S i (absolute a)))
  total_one = form_one d (total_derivative S i a) (total_derivative S i (absolute a)) (total_bound S small i inside a)

  raised_one : IsFormBound (form_term (raised i d) a) (form_term (raised i d) (absolute a))
  raised_one = form_one (raised i d) a (absolute a) (absolute_bound a)

  -- ---- the total derivative of the coefficient, and what is left
  pub total_cause : (fail : PolyFail) (E : LinearForm) → IsCause fail (total_derivative S i (absolute a)) → IsFormCoefficientCause fail (each_coefficient absolute E +ᶠ total_of_term S i d (absolute a))
  total_cause fail E cause = part_cause fail E (total_of_term S i d (absolute a)) d (total_derivative S i (absolute a)) (form_first _ _ (form_plain _ _ total_one) (form_plain _ _ (derived_bound S small i inside d a))) cause

  pub total_put_cause : (fail : PolyFail) (E : LinearForm) (t : WholePolynomial) → t ≡ total_derivative S i a → IsCause fail (absolute (at E d) +ᴾ absolute t) → IsFormCoefficientCause fail (each_coefficient absolute E +ᶠ total_of_term S i d (absolute a))
  total_put_cause fail E t e cause = first_cause fail E _ _ (form_plain _ _ total_one) (form_plain _ _ (derived_bound S small i inside d a)) (put_cause fail E d t (total_derivative S i (absolute a)) (subst (λ p. IsBound p (total_derivative S i (absolute a))) (sym e) (total_bound S small i inside a)) cause)

  pub derived_put_cause : (fail : PolyFail) (E G : LinearForm) → G ≡ E +ᶠ form_term d (total_derivative S i a) → IsFormCoefficientCause fail (each_coefficient absolute G +ᶠ derived_term S i d (absolute a)) → IsFormCoefficientCause fail (each_coefficient absolute E +ᶠ total_of_term S i d (absolute a))
  derived_put_cause fail E G e cause = second_cause fail E _ _ G _ e total_one (form_plain _ _ (derived_bound S small i inside d a)) cause

  pub total_sum : (E G H : LinearForm) → G ≡ E +ᶠ form_term d (total_derivative S i a) → H ≡ G +ᶠ derived_term S i d a → H ≡ E +ᶠ total_of_term S i d a
  total_sum E G H e h = h ∙ ap (λ K. K +ᶠ derived_term S i d a) e ∙ plus_assoc forms E (form_term d (total_derivative S i a)) (derived_term S i d a)

  -- ---- the derivative by the variable itself
  pub raised_put_cause : (fail : PolyFail) (E : LinearForm) (k : Derivative) (p : WholePolynomial) → k ≡ raised i d → p ≡ a → IsCause fail (absolute (at E k) +ᴾ absolute p) → IsFormCoefficientCause fail (each_coefficient absolute E +ᶠ derived_term S i d (absolute a))
  raised_put_cause fail E k p e h cause =
      first_cause fail E _ _ (form_plain _ _ raised_one) (over_bound _ _ (numbers_below S.q) (λ b. form_plain _ _ (dependent_bound S small i inside d a b)))
      (subst (λ j. IsFormCoefficientCause fail (each_coefficient absolute E +ᶠ form_term j (absolute a))) e (put_cause fail E k p (absolute a) (subst (λ q. IsBound q (absolute a)) (sym h) (absolute_bound a)) cause))

  pub product_cause : (fail : PolyFail) (E : LinearForm) (b : ℕ) (u : WholePolynomial) → u ≡ jet_variable S b (raise i (replicate S.p 0)) → IsCause fail (absolute a *ᴾ absolute u) → IsFormCoefficientCause fail (each_coefficient absolute E +ᶠ dependent_term S i d (absolute a) b)
  product_cause fail E b u e cause = part_cause fail E _ _ _ (form_plain _ _ (dependent_bound S small i inside d a b)) (subst (λ p. IsCause fail (absolute a *ᴾ p)) (ap absolute e ∙ absolute_variable _) cause)

  -- ---- the dependent variables, one by one
  some : ℕ → LinearForm
  some b = forms_over (numbers_below b) (dependent_term S i d a)

  some_absolutes : ℕ → LinearForm
  some_absolutes b = forms_over (numbers_below b) (dependent_term S i d (absolute a))

  pub one_more_sum : (E G H : LinearForm) (b : ℕ) → G ≡ E +ᶠ (form_term (raised i d) a +ᶠ forms_over (numbers_below b) (dependent_term S i d a)) → H ≡ G +ᶠ dependent_term S i d a b → H ≡ E +ᶠ (form_term (raised i d) a +ᶠ forms_over (numbers_below (b + 1)) (dependent_term S i d a))
  unfolding some
  one_more_sum E G H b e h =
      h ∙ ap (λ K. K +ᶠ dependent_term S i d a b) e ∙ plus_assoc forms E (form_term (raised i d) a +ᶠ some b) (dependent_term S i d a b)
      ∙ ap (λ K. E +ᶠ K) (plus_assoc forms (form_term (raised i d) a) (some b) (dependent_term S i d a b) ∙ ap (λ K. form_term (raised i d) a +ᶠ K) (plus_comm forms (some b) (dependent_term S i d a b) ∙ ap some (next b)))
    where
      next : (b : ℕ) → suc b ≡ b + 1
      next b = omega arith

  pub dependent_cause : (fail : PolyFail) (E G : LinearForm) (b : ℕ) → b < S.q → G ≡ E +ᶠ (form_term (raised i d) a +ᶠ forms_over (numbers_below b) (dependent_term S i d a)) → IsFormCoefficientCause fail (each_coefficient absolute G +ᶠ dependent_term S i d (absolute a) b) → IsFormCoefficientCause fail (each_coefficient absolute E +ᶠ derived_term S i d (absolute a))
  unfolding some some_absolutes
  dependent_cause fail E G b h e cause =
      cause_bound fail _ _ (form_sum _ _ _ _ (form_plain _ _ (form_absolute E)) wider)
      (second_cause fail E (form_term (raised i d) a +ᶠ some b) (form_term (raised i d) (absolute a) +ᶠ some_absolutes b) G (dependent_term S i d (absolute a) b) e (form_sum _ _ _ _ raised_one (over_bound _ _ (numbers_below b) (dependent_bound S small i inside d a))) (plain b) cause)
    where
      plain : (b : ℕ) → IsPlain (dependent_term S i d (absolute a) b)
      plain b = form_plain _ _ (dependent_bound S small i inside d a b)

      less : suc b ≤ S.q
      less = omega arith

      wider : IsFormBound ((form_term (raised i d) (absolute a) +ᶠ some_absolutes b) +ᶠ dependent_term S i d (absolute a) b) (derived_term S i d (absolute a))
      wider =
          subst (λ K. IsFormBound K (derived_term S i d (absolute a)))
          (sym (plus_assoc forms (form_term (raised i d) (absolute a)) (some_absolutes b) (dependent_term S i d (absolute a) b) ∙ ap (λ K. form_term (raised i d) (absolute a) +ᶠ K) (plus_comm forms (some_absolutes b) (dependent_term S i d (absolute a) b))))
          (form_sum _ _ _ _ (form_plain _ _ raised_one) (fewer_bound (dependent_term S i d (absolute a)) plain (suc b) S.q less))

-- ---- the terms of the form, one by one
pub over_absolutes : (φ : Derivative → WholePolynomial → LinearForm) (es : List (Derivative × WholePolynomial)) → over_entries φ (entry_absolutes es) ≡ over_entries (λ d a. φ d (absolute a)) es
over_absolutes φ [] = refl
over_absolutes φ (e ∷ es) = ap (λ E. φ e.0 (absolute e.1) +ᶠ E) (over_absolutes φ es)

module _ (φ : Derivative → WholePolynomial → LinearForm) (ts : List (Der × WholePolynomial)) (k : ℕ) (x : Der × WholePolynomial) (h : k < length ts) (e : x ≡ get_or ts k x) where
  pub entries_step : over_entries φ (take (k + 1) (derivative_terms ts)) ≡ over_entries φ (take k (derivative_terms ts)) +ᶠ φ (derivative_of x.0) x.1
  entries_step =
      ap (over_entries φ) (take_map (λ (t : Der × WholePolynomial). (derivative_of t.0, t.1)) ts k x h e)
      ∙ sum_of_entries-append (finite_laws.adder forms) φ (take k (derivative_terms ts)) ((derivative_of x.0, x.1) ∷ [])
      ∙ ap (λ E. over_entries φ (take k (derivative_terms ts)) +ᶠ E) (idr (finite_laws.adder forms) (φ (derivative_of x.0) x.1))

module _ (S : Space) (small : IsSmall S) (i : ℕ) (inside : i < S.p) (E : LinearForm) where
  absolute_total : ℕ → Derivative → WholePolynomial → LinearForm
  absolute_total j d a = total_of_term S j d (absolute a)

  same_parts : (d : Derivative) (a : WholePolynomial) → (form_term d (total_derivative S i a) +ᶠ form_term (raised i d) a) +ᶠ forms_over (numbers_below S.q) (dependent_term S i d a) ≡ total_of_term S i d a
  same_parts d a = plus_assoc forms (form_term d (total_derivative S i a)) (form_term (raised i d) a) (forms_over (numbers_below S.q) (dependent_term S i d a))

  bulk_is : symbolic_total S i (each_coefficient absolute E) ≡ over_entries (absolute_total i) E.list
  unfolding symbolic_total absolute_total
  bulk_is = ap (λ φ. over_entries φ (each_coefficient absolute E).list) (fun_ext (λ d. fun_ext (same_parts d))) ∙ ap (over_entries (total_of_term S i)) (list_absolutes E) ∙ over_absolutes (total_of_term S i) E.list

  pub total_is : (es : List (Derivative × WholePolynomial)) → es ≡ E.list → over_entries (total_of_term S i) es ≡ symbolic_total S i E
  unfolding symbolic_total
  total_is es e = ap (over_entries (total_of_term S i)) e ∙ sym (ap (λ φ. over_entries φ E.list) (fun_ext (λ d. fun_ext (same_parts d))))

  pub entry_cause : (fail : PolyFail) (G : LinearForm) (ts : List (Der × WholePolynomial)) (k : ℕ) (x : Der × WholePolynomial) → k < length ts → x ≡ get_or ts k x → derivative_terms ts ≡ E.list → G ≡ over_entries (total_of_term S i) (take k (derivative_terms ts)) →
      IsFormCoefficientCause fail (each_coefficient absolute G +ᶠ total_of_term S i (derivative_of x.0) (absolute x.1)) → IsFormCoefficientCause fail (symbolic_total S i (each_coefficient absolute E))
  unfolding absolute_total
  entry_cause fail G ts k x h e all is cause =
      cause_bound fail _ _
      (subst (IsFormBound _) (sym (bulk_is ∙ ap (over_entries (absolute_total i)) (sym all)))
      (form_trans _ _ _ (subst (IsFormBound _) (sym (entries_step (absolute_total i) ts k x h e)) (form_sum _ _ _ _ (form_absolute_bound G _ (subst (λ K. IsFormBound K (over_entries (absolute_total i) (take k (derivative_terms ts)))) (sym is) (entries_bound (total_of_term S i) (absolute_total i) (term_total_bound S small i inside) (take k (derivative_terms ts))))) (form_plain _ _ (term_total_bound S small i inside (derivative_of x.0) x.1))))
      (front_bound (absolute_total i) (λ d a. form_plain _ _ (term_total_bound S small i inside d a)) (derivative_terms ts) (k + 1)))) cause

-- ---- the entries of a form
module _ (S : Space) (m n : ℕ) (E : LinearForm) (jets : HasJetsUpTo S m E) (orders : HasOrdersUpTo n E) where
  abbrev pub IsLow : Derivative × WholePolynomial → Type 0
  IsLow e = IsIn (is_below (coordinates_up_to S m)) e.1 × (order (e.0).counts ≤ n)

  pub low_entries : Every IsLow E.list
  low_entries = entries_of forms E IsLow (λ e is apart. (subst (IsIn (is_below (coordinates_up_to S m))) is (jets e.0), by e is apart (ltb n (order (e.0).counts)) refl))
    where
      by : (e : Derivative × WholePolynomial) → at E e.0 ≡ e.1 → ¬ (e.1 ≡ 0ᴾ) → (t : Bool) → ltb n (order (e.0).counts) ≡ t → order (e.0).counts ≤ n
      by e is apart true q = absurd (apart (sym is ∙ orders e.0 (ltb-true n _ q)))
      by e is apart false q = ltb-false n _ q

  pub entry_low : (ts : List (Der × WholePolynomial)) (k : ℕ) (x : Der × WholePolynomial) → k < length ts → x ≡ get_or ts k x → derivative_terms ts ≡ E.list → IsLow (derivative_of x.0, x.1)
  entry_low ts k x h e all =
      subst IsLow (sym (get_map (λ (t : Der × WholePolynomial). (derivative_of t.0, t.1)) ts k x e))
      (All-from_recursion IsLow (derivative_terms ts) (subst (Every IsLow) (sym all) low_entries) k (derivative_of x.0, x.1) (subst (λ n. k < n) (sym (length-map ts (λ (t : Der × WholePolynomial). (derivative_of t.0, t.1)))) h))

-- ---- the total derivative of a form is bounded
pub form_total_bound : (S : Space) (small : IsSmall S) (i : ℕ) (inside : i < S.p) (E : LinearForm) → IsFormBound (symbolic_total S i E) (symbolic_total S i (each_coefficient absolute E))
unfolding absolute_total
form_total_bound S small i inside E =
    subst₂ IsFormBound (total_is S small i inside E E.list refl) (sym (bulk_is S small i inside E))
    (entries_bound (total_of_term S i) (λ d a. total_of_term S i d (absolute a)) (term_total_bound S small i inside) E.list)

-- ---- the form with absolute values has the same bulk
pub of_absolute : (S : Space) (i : ℕ) (fail : PolyFail) (E A : LinearForm) → A ≡ each_coefficient absolute E → IsFormCoefficientCause fail (symbolic_total S i (each_coefficient absolute A)) → IsFormCoefficientCause fail (symbolic_total S i (each_coefficient absolute E))
of_absolute S i fail E A e = subst (λ (B : LinearForm). IsFormCoefficientCause fail (symbolic_total S i B)) (ap (each_coefficient absolute) e ∙ form_absolute_twice E)
