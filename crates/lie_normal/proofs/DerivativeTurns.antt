-- Derivatives that are made one after the other: by one variable, and by one variable after the other.
use Rattle.std.specs.Prelude.{◌≡◌, ℕ, zero, suc, ◌+◌, ◌-◌, ◌<◌, ◌≤◌, List, [], ◌∷◌, ◌++◌, length, get_or, slice_index, drop}
use Rattle.std.proofs.Common.{refl, sym, ap, ap₂, subst, ◌∙◌, arith}
use Rattle.std.specs.Fn.{iterate}
use Rattle.std.specs.List.{Contains}
use Rattle.std.proofs.lemmas.List.{drop_more}
use Rattle.std.proofs.lemmas.List.Elements.{Contains-append_left}
use Rattle.lie_math.proofs.ContainedElements.{contains_first}
use Rattle.lie_math.specs.LinearForm.{LinearForm}
use Rattle.lie_math.specs.LinearSystem.{Unknown}
use Rattle.lie_systems.specs.Bulk.{IsFormWithinLimits}
use Rattle.lie_systems.specs.Works.{AForm, IsWorkWithin}
use Rattle.lie_ring.specs.declared.failures.PolyFail.{PolyFail}
use Rattle.lie_form.specs.FormLimits.{IsFormCause}
use Rattle.lie_steps.specs.Bulks.{derivative_bulk, derivatives_made_by, derivatives_made_from}
use Rattle.lie_steps.specs.Derivatives.{derivative, derivatives_from, missing}
use Rattle.lie_normal.specs.WorkCauses.{IsWorkCause}
use Rattle.lie_normal.proofs.CountDifferences.{count-missing}
use Rattle.lie_normal.proofs.CountsUnder.{index_is}
use Rattle.lie_normal.proofs.WorkSteps.{IsLeft, left_all, left_later, left_next, left_same, left_contains, form_work, work_weaken, every_within}

-- ---- by one variable
module _ (us : List Unknown) (v times : ℕ) (E : LinearForm) where
  -- of the derivatives so many are made, and F is the last
  pub record IsOften (k : ℕ) (F : LinearForm) : Type 0 where
    pub value : iterate (derivative us v) (times - k) F ≡ iterate (derivative us v) times E
    pub left : IsLeft (derivatives_made_by us v times E) (derivatives_made_by us v (times - k) F)

  pub often_start : IsOften 0 E
  often_start = record {
    value = ap (λ n. iterate (derivative us v) n E) whole;
    left = left_same _ _ _ (left_all _) (sym (ap (λ n. derivatives_made_by us v n E) whole));
  }
    where
      whole : times - 0 ≡ times
      whole = omega arith

  fewer : (k : ℕ) → k < times → times - k ≡ suc (times - (k + 1))
  fewer k h = omega arith

  module _ (k : ℕ) (F : LinearForm) (less : k < times) (h : IsOften k F) where
    parts : derivatives_made_by us v (times - k) F ≡ AForm (derivative_bulk us v F) ∷ derivatives_made_by us v (times - (k + 1)) (derivative us v F)
    parts = ap (λ n. derivatives_made_by us v n F) (fewer k less)

    pub often_next : (G : LinearForm) → G ≡ derivative us v F → IsFormWithinLimits (derivative_bulk us v F) → IsOften (k + 1) G
    often_next G e w = subst (IsOften (k + 1)) (sym e) (record {
      value = sym (ap (λ n. iterate (derivative us v) n F) (fewer k less)) ∙ h.value;
      left = left_next _ _ (AForm (derivative_bulk us v F)) (left_same _ _ _ h.left parts) w;
    })

    pub often_cause : (fail : PolyFail) → IsFormCause fail (derivative_bulk us v F) → IsWorkCause fail (Contains (derivatives_made_by us v times E))
    often_cause fail c = form_work (Contains (derivatives_made_by us v times E)) fail (derivative_bulk us v F) (left_contains _ _ (left_same _ _ _ h.left parts) (AForm (derivative_bulk us v F)) (contains_first _ _)) c

  nothing : (k : ℕ) → times ≤ k → times - k ≡ 0
  nothing k h = omega arith

  module _ (k : ℕ) (F : LinearForm) (all : times ≤ k) (h : IsOften k F) where
    pub often_value : F ≡ iterate (derivative us v) times E
    often_value = sym (ap (λ n. iterate (derivative us v) n F) (nothing k all)) ∙ h.value

    pub often_left : IsLeft (derivatives_made_by us v times E) []
    often_left = left_same _ _ _ h.left (ap (λ n. derivatives_made_by us v n F) (nothing k all))

-- ---- by one variable after the other
-- how often, as it is read from kept counts
pub times_is : (J K : List ℕ) (i p q t : ℕ) → p ≡ i → q ≡ i → t ≡ slice_index K p - slice_index J q → t ≡ get_or K i 0 - get_or J i 0
times_is J K i p q t e h is = is ∙ ap₂ (λ a b. slice_index K a - slice_index J b) e h ∙ ap₂ ◌-◌ (index_is K i) (index_is J i)

length-missing : (J K : List ℕ) → length (missing J K) ≡ length K
length-missing J [] = refl
length-missing [] (k ∷ K) = refl
length-missing (j ∷ J) (k ∷ K) = ap suc (length-missing J K)

module _ (us : List Unknown) (J K : List ℕ) (E : LinearForm) where
  -- the derivatives by the variables below i are made, and F is the last
  pub record IsBetween (i : ℕ) (F : LinearForm) : Type 0 where
    pub value : derivatives_from us i (drop i (missing J K)) F ≡ derivatives_from us 0 (missing J K) E
    pub left : IsLeft (derivatives_made_from us 0 (missing J K) E) (derivatives_made_from us i (drop i (missing J K)) F)

  pub between_start : (F : LinearForm) → F ≡ E → IsBetween 0 F
  between_start F e = subst (IsBetween 0) (sym e) (record {
    value = ap (λ M. derivatives_from us 0 M E) (none_dropped (missing J K));
    left = left_same _ _ _ (left_all _) (sym (ap (λ M. derivatives_made_from us 0 M E) (none_dropped (missing J K))));
  })
    where
      none_dropped : (M : List ℕ) → drop 0 M ≡ M
      none_dropped [] = refl
      none_dropped (m ∷ M) = refl

  module _ (i : ℕ) (F : LinearForm) (less : i < length K) (h : IsBetween i F) (c : ℕ) (is : c ≡ get_or K i 0 - get_or J i 0) where
    cut : drop i (missing J K) ≡ c ∷ drop (i + 1) (missing J K)
    cut = drop_more (missing J K) i 0 (omega (arith, length-missing J K)) ∙ ap (λ n. n ∷ drop (i + 1) (missing J K)) (count-missing J K i ∙ sym is)

    next_variable : (n : ℕ) → suc n ≡ n + 1
    next_variable n = omega arith

    made : derivatives_made_from us i (drop i (missing J K)) F ≡ derivatives_made_by us i c F ++ derivatives_made_from us (i + 1) (drop (i + 1) (missing J K)) (iterate (derivative us i) c F)
    made = ap (λ M. derivatives_made_from us i M F) cut ∙ ap (λ n. derivatives_made_by us i c F ++ derivatives_made_from us n (drop (i + 1) (missing J K)) (iterate (derivative us i) c F)) (next_variable i)

    pub between_next : (G : LinearForm) → G ≡ iterate (derivative us i) c F → IsWorkWithin (Contains (derivatives_made_by us i c F)) → IsBetween (i + 1) G
    between_next G e w = subst (IsBetween (i + 1)) (sym e) (record {
      value = sym (ap (λ M. derivatives_from us i M F) cut ∙ ap (λ n. derivatives_from us n (drop (i + 1) (missing J K)) (iterate (derivative us i) c F)) (next_variable i)) ∙ h.value;
      left = left_later _ (derivatives_made_by us i c F) _ (left_same _ _ _ h.left made) (every_within _ w);
    })

    pub between_cause : (fail : PolyFail) → IsWorkCause fail (Contains (derivatives_made_by us i c F)) → IsWorkCause fail (Contains (derivatives_made_from us 0 (missing J K) E))
    between_cause fail cause = work_weaken fail (λ b k. left_contains _ _ (left_same _ _ _ h.left made) b (Contains-append_left _ _ b k)) cause

  all_dropped : (M : List ℕ) (i : ℕ) → length M ≤ i → drop i M ≡ []
  all_dropped [] zero h = refl
  all_dropped [] (suc i) h = refl
  all_dropped (m ∷ M) zero h = absurd (omega arith)
  all_dropped (m ∷ M) (suc i) h = all_dropped M i (omega arith)

  module _ (i : ℕ) (F : LinearForm) (all : length K ≤ i) (h : IsBetween i F) where
    none : drop i (missing J K) ≡ []
    none = all_dropped (missing J K) i (omega (arith, length-missing J K))

    pub between_value : F ≡ derivatives_from us 0 (missing J K) E
    between_value = sym (ap (λ M. derivatives_from us i M F) none) ∙ h.value

    pub between_left : IsLeft (derivatives_made_from us 0 (missing J K) E) []
    between_left = left_same _ _ _ h.left (ap (λ M. derivatives_made_from us i M F) none)
