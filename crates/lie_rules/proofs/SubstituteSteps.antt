-- The step of the rule for an equation solved for an unknown.
use Rattle.std.specs.Prelude.{◌≡◌, ℕ, true, false, List, [], ◌∷◌, ◌++◌, ℤ, pos, neg_ℤ, unsigned_abs}
use Rattle.std.proofs.Common.{sym, ap, ap₂, subst, ◌∙◌}
use Rattle.std.specs.List.{Contains}
use Rattle.lie_math.specs.Counts.{Derivative}
use Rattle.lie_math.specs.LinearForm.{LinearForm}
use Rattle.lie_math.specs.LinearSystem.{LinearSystem, Unknown}
use Rattle.lie_math.specs.Limits.{FitsNumber}
use Rattle.lie_math.specs.Polynomial.{constant}
use Rattle.lie_math.proofs.ContainedElements.{contains_first}
use Rattle.lie_systems.specs.Bulk.{IsFormWithinLimits}
use Rattle.lie_systems.specs.Normalised.{sign}
use Rattle.lie_systems.specs.ValidSystems.{IsValid}
use Rattle.lie_systems.specs.Works.{AForm, ANumber, IsWorkWithin}
use Rattle.lie_ring.specs.declared.failures.PolyFail.{PolyFail}
use Rattle.lie_form.specs.FormLimits.{IsFormCause}
use Rattle.lie_steps.specs.Bulks.{absolute_form}
use Rattle.lie_steps.specs.Equations.{equation, IsPlace, IsGreatest, rest_of, mentions}
use Rattle.lie_steps.specs.Replacement.{eliminated_divided, solution_made, replacement_made}
use Rattle.lie_steps.specs.Rules.{Substitute}
use Rattle.lie_steps.specs.Substitute.{IsSubstitutable, IsSubstitutedAt, AppliesSubstitute, AfterSubstitute, solution, substituted}
use Rattle.lie_steps.specs.Tidying.{IsTidySystem}
use Rattle.lie_steps.proofs.NoneApplies.{solved_occurs}
use Rattle.lie_steps.proofs.Rests.{at_derivative}
use Rattle.lie_steps.proofs.SolvedForms.{greatest_unique, same_constant}
use Rattle.lie_steps.proofs.SubstituteRule.{substitute_keeps}
use Rattle.lie_normal.specs.WorkCauses.{IsWorkCause}
use Rattle.lie_normal.proofs.WorkSteps.{all_within, form_work}
use Rattle.lie_change.specs.Ends.{StaysValid, EliminationMakes}
use Rattle.lie_change.specs.Tried.{at, TryMakes}
use Rattle.lie_jet.specs.Derivatives.{derivative_of}
use Rattle.lie_rules.specs.Solutions.{IsSolved, IsSubstitution}
use Rattle.lie_rules.specs.declared.solved.Solved.{Solved}
use Rattle.lie_rules.proofs.OtherUnknowns.{others_of, not_mentioned, others_times, occurs_mentioned}
use Rattle.lie_rules.proofs.Steps.{IsStep, try_within, try_cause, later_within, later_cause, front_cause}

module _ (n : ℕ) (S : LinearSystem) (valid : IsValid n S) (i : ℕ) (d : Derivative) (c : ℤ) (a : IsSubstitutedAt S i d c) where
  -- ---- of the equation it is one step
  same_derivative : (e : Derivative) (b : ℤ) → IsSubstitutedAt S i e b → e ≡ d
  same_derivative e b x = greatest_unique (IsSubstitutable S.unknowns (equation S i)) e d x.greatest a.greatest

  same_number : (e : Derivative) (b : ℤ) → IsSubstitutedAt S i e b → b ≡ c
  same_number e b x = same_constant b c
      (sym (x.solved).leads ∙ ap (at_derivative (equation S i)) (same_derivative e b x) ∙ (a.solved).leads)

  pub substitute_step : IsStep Substitute S (at i) (substituted S i d c)
      (solution_made (solution S i d c) (unsigned_abs c) ++ replacement_made S i d.unknown (solution S i d c) (unsigned_abs c) [])
  substitute_step = record {
    untested = λ b t. t;
    leaves = λ T t. (d, c, a, t);
    left = λ T (e, b, x, t). subst (λ y. IsTidySystem (substituted S i d y) T) (same_number e b x)
        (subst (λ y. IsTidySystem (substituted S i y b) T) (same_derivative e b x) t);
    made = λ m (e, b, x, k).
        subst (λ y. Contains (solution_made (solution S i d y) (unsigned_abs y) ++ replacement_made S i d.unknown (solution S i d y)
        (unsigned_abs y) []) m) (same_number e b x)
        (subst (λ (y : Derivative). Contains
        (solution_made (solution S i y b) (unsigned_abs b) ++ replacement_made S i y.unknown (solution S i y b) (unsigned_abs b) []) m)
        (same_derivative e b x) k);
    makes = λ m k. (d, c, a, k);
  }

  -- ---- what an elimination asks
  pub substitute_stays : StaysValid n (substituted S i d c)
  substitute_stays T t = (substitute_keeps n S T i valid (d, c, a, t)).0

  pub substitute_occurs : mentions d.unknown (equation S i) ≡ true
  substitute_occurs = occurs_mentioned d (equation S i) (solved_occurs S.unknowns (equation S i) d c a.solved)

  pub solution_free : mentions d.unknown (solution S i d c) ≡ false
  solution_free = not_mentioned d.unknown (solution S i d c)
      (others_times d.unknown (constant (neg_ℤ (sign c))) (rest_of d (equation S i))
      (others_of d.unknown (rest_of d (equation S i)) (a.solved).alone))

  -- ---- limits
  pub solution_cause : (fail : PolyFail) → IsFormCause fail (absolute_form (solution S i d c))
      → IsWorkCause fail (TryMakes Substitute S (at i))
  solution_cause fail h =
      try_cause Substitute S (at i) (substituted S i d c) _ substitute_step fail
      (front_cause (substituted S i d c) (solution_made (solution S i d c) (unsigned_abs c))
      (replacement_made S i d.unknown (solution S i d c) (unsigned_abs c) []) fail
      (form_work (Contains (solution_made (solution S i d c) (unsigned_abs c))) fail (absolute_form (solution S i d c))
      (contains_first (AForm (absolute_form (solution S i d c))) (ANumber (unsigned_abs c) ∷ [])) h))

  pub elimination_cause : (fail : PolyFail)
      → IsWorkCause fail (EliminationMakes S i d.unknown (solution S i d c) (unsigned_abs c) [] (substituted S i d c))
      → IsWorkCause fail (TryMakes Substitute S (at i))
  elimination_cause fail h =
      try_cause Substitute S (at i) (substituted S i d c) _ substitute_step fail
      (later_cause (substituted S i d c) (solution_made (solution S i d c) (unsigned_abs c))
      (replacement_made S i d.unknown (solution S i d c) (unsigned_abs c) []) fail h)

  pub substitution_within : IsFormWithinLimits (absolute_form (solution S i d c)) → FitsNumber c
      → IsWorkWithin (EliminationMakes S i d.unknown (solution S i d c) (unsigned_abs c) [] (substituted S i d c))
      → IsWorkWithin (TryMakes Substitute S (at i))
  substitution_within h k w =
      try_within Substitute S (at i) (substituted S i d c) _ substitute_step
      (later_within (substituted S i d c) (solution_made (solution S i d c) (unsigned_abs c))
      (replacement_made S i d.unknown (solution S i d c) (unsigned_abs c) [])
      (all_within (solution_made (solution S i d c) (unsigned_abs c)) (h, (k, tt))) w)

  -- ---- the form and the number as they are kept
  module _ (W : LinearForm) (D : ℤ) (form : W ≡ solution S i d c) (divisor : D ≡ pos (unsigned_abs c)) where
    size : unsigned_abs D ≡ unsigned_abs c
    size = ap unsigned_abs divisor

    pub kept_free : mentions d.unknown W ≡ false
    kept_free = ap (mentions d.unknown) form ∙ solution_free

    left : eliminated_divided S i d.unknown W (unsigned_abs D) [] ≡ substituted S i d c
    left = ap₂ (λ (V : LinearForm) m. eliminated_divided S i d.unknown V m []) form size

    makes : EliminationMakes S i d.unknown W (unsigned_abs D) []
        (eliminated_divided S i d.unknown W (unsigned_abs D) []) ≡ EliminationMakes S i d.unknown (solution S i d c) (unsigned_abs c) []
        (substituted S i d c)
    makes = ap₂ (λ (V : LinearForm) m. EliminationMakes S i d.unknown V m [] (eliminated_divided S i d.unknown V m [])) form size

    pub kept_stays : StaysValid n (eliminated_divided S i d.unknown W (unsigned_abs D) [])
    kept_stays = subst (StaysValid n) (sym left) substitute_stays

    pub kept_after : (T : LinearSystem) → IsTidySystem (eliminated_divided S i d.unknown W (unsigned_abs D) []) T → AfterSubstitute S i T
    kept_after T t = (d, c, a, subst (λ X. IsTidySystem X T) left t)

    pub kept_cause : (fail : PolyFail)
        → IsWorkCause fail (EliminationMakes S i d.unknown W (unsigned_abs D) [] (eliminated_divided S i d.unknown W (unsigned_abs D) []))
        → IsWorkCause fail (TryMakes Substitute S (at i))
    kept_cause fail h = elimination_cause fail (subst (IsWorkCause fail) makes h)

    pub kept_within : IsFormWithinLimits (absolute_form (solution S i d c)) → FitsNumber c
        → IsWorkWithin (EliminationMakes S i d.unknown W (unsigned_abs D) [] (eliminated_divided S i d.unknown W (unsigned_abs D) []))
        → IsWorkWithin (TryMakes Substitute S (at i))
    kept_within h k w = substitution_within h k (subst IsWorkWithin makes w)

-- ---- the equation at a place, where its unknowns and its form are known by other names
module _ (S : LinearSystem) (i : ℕ) (us : List Unknown) (E : LinearForm) (unknowns : us ≡ S.unknowns) (form : E ≡ equation S i) where
  both : ◌≡◌ {A = List Unknown × LinearForm} (us, E) (S.unknowns, equation S i)
  both = λ j. (unknowns j, form j)

  pub no_substitution : ((d : Derivative) → ¬ (IsSubstitutable us E d)) → ¬ (AppliesSubstitute S i)
  no_substitution n (d, c, a) = n d (subst (λ (x : List Unknown × LinearForm). IsSubstitutable x.0 x.1 d) (sym both) (a.greatest).holds)

  pub is_substitution : IsPlace S i → (s : Solved) → IsSolved us E s × IsGreatest (IsSubstitutable us E) (derivative_of s.der)
      → IsSubstitution S i s
  is_substitution p s h =
      let k = subst (λ (x : List Unknown × LinearForm). IsSolved x.0 x.1 s) both h.0 in (
        record {
          place = p;
          solved = k.solved;
          greatest =
              subst (λ (x : List Unknown × LinearForm). IsGreatest (IsSubstitutable x.0 x.1) (derivative_of s.der)) both h.1;
        },
        k.rest,
      )
