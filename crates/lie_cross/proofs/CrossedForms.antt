-- Two equations that are crossed: what the test makes and finds.
use Rattle.std.specs.Prelude.{◌≡◌, ℕ, ◌<◌, ◌⊎◌, ltb, List, [], ◌∷◌, ◌++◌, Option, Some, None, MatchOption}
use Rattle.std.proofs.Common.{sym, subst, ◌∙◌, arith, inl, inr}
use Rattle.std.specs.List.{Contains}
use Rattle.std.proofs.lemmas.List.Elements.{Contains-append_left, Contains-append_right}
use Rattle.lie_math.specs.Counts.{Derivative}
use Rattle.lie_math.specs.LinearForm.{LinearForm, no_form}
use Rattle.lie_math.specs.LinearSystem.{Unknown, LinearSystem}
use Rattle.lie_systems.specs.Bulk.{IsFormWithinLimits}
use Rattle.lie_systems.specs.Leads.{IsLead}
use Rattle.lie_systems.specs.ValidSystems.{IsOwned, IsFormOf, IsValid}
use Rattle.lie_systems.specs.Works.{Made, AForm, IsMadeWithin, IsWorkWithin}
use Rattle.lie_ring.specs.declared.failures.PolyFail.{PolyFail}
use Rattle.lie_form.specs.FormLimits.{IsFormCause}
use Rattle.lie_steps.specs.Bulks.{derivatives_made}
use Rattle.lie_steps.specs.Cross.{least_multiple, raised_to, crossed, crossed_made, IsCrossedAt, AppliesCross, CrossTries}
use Rattle.lie_steps.specs.Derivatives.{missing, derivatives}
use Rattle.lie_steps.specs.Equations.{equation, IsPlace, with_equation}
use Rattle.lie_steps.specs.NormalForm.{IsNormalForm, NormalFormMakes, combined, combined_bulk}
use Rattle.lie_steps.specs.Rules.{Cross, Place, After}
use Rattle.lie_steps.specs.Tidying.{IsTidySystem}
use Rattle.lie_steps.proofs.Combining.{combined-form}
use Rattle.lie_steps.proofs.DecideAlone.{equation_form}
use Rattle.lie_steps.proofs.Derived.{derivatives-form}
use Rattle.lie_steps.proofs.NormalForms.{lead_unique, normal_form_unique}
use Rattle.lie_steps.proofs.ReducingRules.{cross_keeps, cross_functional}
use Rattle.lie_normal.specs.WorkCauses.{IsWorkCause}
use Rattle.lie_normal.proofs.WorkSteps.{work_weaken, form_work, all_within, every_within, within_more, last_contained}
use Rattle.lie_math.proofs.EveryElement.{every-append}
use Rattle.lie_cross.specs.Cross.{AreLeadsOfOne}
use Rattle.lie_cross.proofs.AddedForms.{IsAddingRule}

abbrev pub pair : ℕ → ℕ → Place
pair i j = record { first = i; second = j }

-- ---- what is known of an equation and of a derivative by other names
module _ (S : LinearSystem) (k : ℕ) (l d c : Derivative) (us : List Unknown) (E : LinearForm) (names : us ≡ S.unknowns) (target : d ≡ c)
    (is : equation S k ≡ E) where
  pub same_work : (fail : PolyFail) → IsWorkCause fail (Contains (derivatives_made us (missing l.counts d.counts) E))
      → IsWorkCause fail (Contains (derivatives_made S.unknowns (missing l.counts c.counts) (equation S k)))
  same_work fail cause =
      subst (λ (x : List Unknown × Derivative × LinearForm). IsWorkCause fail
      (Contains (derivatives_made x.0 (missing l.counts x.1.counts) x.2))) (λ i. (names i, target i, sym is i)) cause

  pub same_within : IsWorkWithin (Contains (derivatives_made us (missing l.counts d.counts) E))
      → IsWorkWithin (Contains (derivatives_made S.unknowns (missing l.counts c.counts) (equation S k)))
  same_within within =
      subst (λ (x : List Unknown × Derivative × LinearForm). IsWorkWithin
      (Contains (derivatives_made x.0 (missing l.counts x.1.counts) x.2))) (λ i. (names i, target i, sym is i)) within

  pub same_raised : derivatives us (missing l.counts d.counts) E ≡ raised_to S k l c
  same_raised = λ i. derivatives (names i) (missing l.counts (target i).counts) (sym is i)

-- ---- the derivatives and the combination
module _ (S : LinearSystem) (i j : ℕ) (l m : Derivative) where
  abbrev first_made : List Made
  first_made = derivatives_made S.unknowns (missing l.counts (least_multiple l m).counts) (equation S i)

  abbrev second_made : List Made
  second_made = derivatives_made S.unknowns (missing m.counts (least_multiple l m).counts) (equation S j)

  abbrev pub crossed_bulk : LinearForm
  crossed_bulk = combined_bulk (least_multiple l m) (raised_to S i l (least_multiple l m)) (raised_to S j m (least_multiple l m))

  pub first_cause : (fail : PolyFail) → IsWorkCause fail (Contains first_made) → IsWorkCause fail (Contains (crossed_made S i j l m))
  first_cause fail cause =
      work_weaken fail
      (λ b c. Contains-append_left (first_made ++ second_made) (AForm crossed_bulk ∷ []) b
      (Contains-append_left first_made second_made b c)) cause

  pub second_cause : (fail : PolyFail) → IsWorkCause fail (Contains second_made) → IsWorkCause fail (Contains (crossed_made S i j l m))
  second_cause fail cause =
      work_weaken fail
      (λ b c. Contains-append_left (first_made ++ second_made) (AForm crossed_bulk ∷ []) b
      (Contains-append_right first_made second_made b c)) cause

  pub last_cause : (fail : PolyFail) → IsFormCause fail crossed_bulk → IsWorkCause fail (Contains (crossed_made S i j l m))
  last_cause fail cause = form_work (Contains (crossed_made S i j l m)) fail crossed_bulk
      (last_contained (first_made ++ second_made) (AForm crossed_bulk)) cause

  -- the combination of what was made by other names
  module _ (c : Derivative) (F G : LinearForm) (target : c ≡ least_multiple l m) (left : F ≡ raised_to S i l (least_multiple l m))
      (right : G ≡ raised_to S j m (least_multiple l m)) where
    pub combination_is : combined c F G ≡ crossed S i j l m
    combination_is = λ k. combined (target k) (left k) (right k)

    pub bulk_is : combined_bulk c F G ≡ crossed_bulk
    bulk_is = λ k. combined_bulk (target k) (left k) (right k)

  pub made_fit : IsWorkWithin (Contains first_made) → IsWorkWithin (Contains second_made) → IsFormWithinLimits crossed_bulk
      → IsWorkWithin (Contains (crossed_made S i j l m))
  made_fit f s w =
      within_more (first_made ++ second_made) (AForm crossed_bulk)
      (all_within (first_made ++ second_made)
      (every-append IsMadeWithin first_made second_made (every_within first_made f) (every_within second_made s))) w

module _ (n : ℕ) (S : LinearSystem) (valid : IsValid n S) (i j : ℕ) (order : i < j) (place : IsPlace S j) where
  before : IsPlace S i
  before = omega arith

  -- ---- leads of one unknown
  module _ (l m : Derivative) (are : AreLeadsOfOne (equation S i) (equation S j) l m) where
    raised_form : (k : ℕ) → IsPlace S k → (d : Derivative) → IsFormOf n S.unknowns (raised_to S k d (least_multiple l m))
    raised_form k p d = derivatives-form n S.unknowns valid.rising (missing d.counts (least_multiple l m).counts) (equation S k)
        (equation_form n S valid k p)

    pub crossed_form : IsFormOf n S.unknowns (crossed S i j l m)
    crossed_form = combined-form (least_multiple l m) (raised_to S i l (least_multiple l m)) (raised_to S j m (least_multiple l m))
        (IsOwned S.unknowns) (λ v. ltb v n) (raised_form i before l) (raised_form j place m)

    -- the leads are these
    module _ (P : Derivative → Derivative → Type 0) (k q : Derivative) (a : IsLead k (equation S i)) (b : IsLead q (equation S j)) where
      these : P k q → P l m
      these p = subst (λ x. P x m) (lead_unique (equation S i) k l a are.lead) (subst (P k) (lead_unique (equation S j) q m b are.other) p)

    pub crossed_fits : IsWorkWithin (Contains (crossed_made S i j l m))
        → IsWorkWithin (NormalFormMakes S.unknowns S.equations (crossed S i j l m)) → IsWorkWithin (CrossTries S i j)
    crossed_fits f s b t =
        go (these
        (λ x y. Contains (crossed_made S i j x y) b ⊎ NormalFormMakes S.unknowns S.equations (crossed S i j x y) b) t.0 t.1 t.2 t.3 t.5)
      where
        go : Contains (crossed_made S i j l m) b ⊎ NormalFormMakes S.unknowns S.equations (crossed S i j l m) b → IsMadeWithin b
        go (inl c) = f b c
        go (inr c) = s b c

    module _ (N : LinearForm) (normal : IsNormalForm S.unknowns S.equations (crossed S i j l m) N) where
      pub crossed_at : ¬ (N ≡ no_form) → IsCrossedAt S i j N
      crossed_at some =
          record {
            order = order;
            place = place;
            lead = l;
            leads = are.lead;
            other = m;
            other_leads = are.other;
            unknown = are.unknown;
            normal = normal;
            some = some;
          }

      pub not_crossed : N ≡ no_form → ¬ (AppliesCross S i j)
      not_crossed e a =
          (a.1).some
          (normal_form_unique
          (these (λ x y. IsNormalForm S.unknowns S.equations (crossed S i j x y) a.0) (a.1).lead (a.1).other (a.1).leads (a.1).other_leads
          (a.1).normal) N normal ∙ e)

  pub crossed_match : (l m : Derivative) (are : AreLeadsOfOne (equation S i) (equation S j) l m) (N : LinearForm)
      → IsNormalForm S.unknowns S.equations (crossed S i j l m) N → (found : Option LinearForm)
      → MatchOption found (N ≡ no_form) (λ M. (M ≡ N) × ¬ (N ≡ no_form)) → MatchOption found (¬ (AppliesCross S i j)) (IsCrossedAt S i j)
  crossed_match l m are N normal None e = not_crossed l m are N normal e
  crossed_match l m are N normal (Some M) h = subst (IsCrossedAt S i j) (sym h.0) (crossed_at l m are N normal h.1)

  -- ---- the rule
  pub cross_adds : IsAddingRule n Cross S (pair i j) (CrossTries S i j)
  cross_adds = record {
    tries = λ b t. t.2;
    tried = λ b t. (order, place, t);
    alone = λ b m. m;
    applies = λ T a. (a.0, a.1);
    unique = λ T U a b. cross_functional n S T U i j valid a b;
    valid = λ T a. (cross_keeps n S T i j valid a).0;
  }

  pub cross_after : (N : LinearForm) → IsCrossedAt S i j N → (T : LinearSystem) → IsTidySystem (with_equation S N) T
      → After Cross S (pair i j) T
  cross_after N f T t = (N, f, t)
