-- The search for a foreign variable: what is found by one variable, and by none or by the first.
use Rattle.std.specs.Prelude.{◌≡◌, ℕ, ◌<◌, ◌≤◌, ◌⊎◌, false, ltb, Option, Some, None, MatchOption}
use Rattle.std.proofs.Common.{refl, sym, ap, subst, ◌∙◌, arith, inl, inr}
use Rattle.lie_math.specs.Counts.{Derivative}
use Rattle.lie_math.specs.FiniteSum as finite
use Rattle.lie_math.specs.FiniteSumLaws.{value-none}
use Rattle.lie_math.specs.LinearForm.{LinearForm, forms, no_form}
use Rattle.lie_math.specs.LinearSystem.{LinearSystem}
use Rattle.lie_math.specs.Limits.{absolute}
use Rattle.lie_math.proofs.Decisions.{at_most_or_greater}
use Rattle.lie_math.proofs.FormEntries.{each-coefficient}
use Rattle.lie_systems.specs.Bulk.{IsFormWithinLimits}
use Rattle.lie_systems.specs.Leads.{IsLead}
use Rattle.lie_systems.specs.ValidSystems.{IsOwned, IsFormOf, IsValid}
use Rattle.lie_systems.specs.Works.{Made, AForm, IsMadeWithin, IsWorkWithin}
use Rattle.lie_ring.specs.declared.failures.PolyFail.{PolyFail}
use Rattle.lie_jet.proofs.BoundedPolynomials.{absolute_in}
use Rattle.lie_form.proofs.FormCauses.{within_limits}
use Rattle.lie_steps.specs.Bulks.{derivative_bulk}
use Rattle.lie_steps.specs.Derivatives.{derivative}
use Rattle.lie_steps.specs.Equations.{equation, IsPlace, depends}
use Rattle.lie_steps.specs.Foreign.{IsForeignBy, IsForeignAt, AppliesForeign, IsForeignTried, ForeignTries}
use Rattle.lie_steps.specs.NormalForm.{IsNormalForm, NormalFormMakes}
use Rattle.lie_steps.specs.Rules.{Foreign, After}
use Rattle.lie_steps.specs.Equations.{with_equation}
use Rattle.lie_steps.specs.Tidying.{IsTidySystem}
use Rattle.lie_steps.proofs.DecideAlone.{equation_form}
use Rattle.lie_steps.proofs.DecideLater.{derivative_outside, foreign_outside}
use Rattle.lie_steps.proofs.Derived.{derivative-form}
use Rattle.lie_steps.proofs.NormalForms.{normal_form_unique}
use Rattle.lie_steps.proofs.NormalFormWork.{no_work}
use Rattle.lie_steps.proofs.ReducingRules.{foreign_keeps, foreign_functional}
use Rattle.lie_normal.specs.WorkCauses.{IsWorkCause}
use Rattle.lie_normal.proofs.AbsoluteForms.{absolute_form_is}
use Rattle.lie_normal.proofs.WorkSteps.{work_weaken}
use Rattle.lie_change.specs.Tried.{at}
use Rattle.lie_cross.specs.Foreign.{DerivativeMakes, VariableTries}
use Rattle.lie_cross.specs.Variables.{ArePassed}
use Rattle.lie_cross.proofs.AddedForms.{IsAddingRule}
use Rattle.lie_cross.proofs.ReducibleForms.{lead_apart}

-- the empty form is within the limits, and nothing can be reduced in it
pub nothing_within : IsFormWithinLimits no_form
unfolding finite.none finite.of
nothing_within = within_limits no_form tt (omega arith)

-- ---- without a lead
module _ (S : LinearSystem) (i : ℕ) (empty : equation S i ≡ no_form) where
  pub leadless_is_not_foreign : ¬ (AppliesForeign S i)
  leadless_is_not_foreign a = lead_apart (equation S i) ((a.2).foreign).lead ((a.2).foreign).leads empty

  pub leadless_fits : IsWorkWithin (ForeignTries S i)
  leadless_fits b t = absurd (lead_apart (equation S i) (t.1).lead (t.1).leads empty)

-- ---- with one
module _ (n : ℕ) (S : LinearSystem) (valid : IsValid n S) (i : ℕ) (place : IsPlace S i) where
  pub derived_form : (v : ℕ) → IsFormOf n S.unknowns (derivative S.unknowns v (equation S i))
  derived_form v = derivative-form n S.unknowns valid.rising v (equation S i) (equation_form n S valid i place)

  -- ---- one variable
  module _ (v : ℕ) (l : Derivative) (leads : IsLead l (equation S i)) where
    module _ (free : depends S.unknowns l.unknown v ≡ false) where
      module _ (N : LinearForm) (normal : IsNormalForm S.unknowns S.equations (derivative S.unknowns v (equation S i)) N) where
        pub foreign_by : ¬ (N ≡ no_form) → IsForeignBy S i v N
        foreign_by some = record { lead = l; leads = leads; free = free; normal = normal; some = some }

        pub not_foreign : N ≡ no_form → (M : LinearForm) → ¬ (IsForeignBy S i v M)
        not_foreign e M f = f.some (normal_form_unique f.normal N normal ∙ e)

  pub foreign_match : (v : ℕ) (l : Derivative) → IsLead l (equation S i) → depends S.unknowns l.unknown v ≡ false → (N : LinearForm)
      → IsNormalForm S.unknowns S.equations (derivative S.unknowns v (equation S i)) N → (found : Option LinearForm)
      → MatchOption found (N ≡ no_form) (λ M. (M ≡ N) × ¬ (N ≡ no_form))
      → MatchOption found (¬ ((M : LinearForm) × IsForeignBy S i v M)) (IsForeignBy S i v)
  foreign_match v l leads free N normal None e = λ h. not_foreign v l leads free N normal e h.0 h.1
  foreign_match v l leads free N normal (Some M) h = subst (IsForeignBy S i v) (sym h.0) (foreign_by v l leads free N normal h.1)

  -- ---- variables outside the space
  bulk_outside : (v : ℕ) → n ≤ v → derivative_bulk S.unknowns v (equation S i) ≡ no_form
  bulk_outside v le =
      ap (derivative S.unknowns v) (absolute_form_is (equation S i))
      ∙ derivative_outside n S valid _
      (each-coefficient (IsOwned S.unknowns) (λ w. ltb w n) absolute (λ a h. absolute_in (λ w. ltb w n) a h) (equation S i)
      (equation_form n S valid i place)) v le

  outside_fits : (v : ℕ) → n ≤ v → IsWorkWithin (DerivativeMakes S i v)
  outside_fits v le b (inl e) = subst IsMadeWithin (sym (e ∙ ap AForm (bulk_outside v le))) nothing_within
  outside_fits v le b (inr m) =
      absurd (no_work
      (λ d r. r.0
      (ap (λ G. finite.value forms G d) (derivative_outside n S valid (equation S i) (equation_form n S valid i place) v le)
      ∙ value-none forms d)) m)

  -- ---- all variables
  abbrev AreForeignPassed : ℕ → Type 0
  AreForeignPassed v = ArePassed (IsForeignBy S i) (VariableTries S i) v

  variable_at : (v : ℕ) → IsForeignTried S i v → (b : Made) → (b ≡ AForm (derivative_bulk S.unknowns v (equation S i)))
      ⊎ NormalFormMakes S.unknowns S.equations (derivative S.unknowns v (equation S i)) b → VariableTries S i v b
  variable_at v t b m = (t.lead, t.leads, t.free, m)

  pub none_is_foreign : (v : ℕ) → n ≤ v → AreForeignPassed v → ¬ (AppliesForeign S i)
  none_is_foreign v le h a = go (at_most_or_greater n a.0)
    where
      go : (n ≤ a.0) ⊎ (a.0 < n) → ⊥
      go (inl k) = foreign_outside n S valid i place a.0 k (a.1, (a.2).foreign)
      go (inr k) = h.none a.0 a.1 (omega arith) (a.2).foreign

  pub all_fit : (v : ℕ) → n ≤ v → AreForeignPassed v → IsWorkWithin (ForeignTries S i)
  all_fit v le h b t = go (at_most_or_greater n t.0)
    where
      go : (n ≤ t.0) ⊎ (t.0 < n) → IsMadeWithin b
      go (inl k) = outside_fits t.0 k b t.2
      go (inr k) = h.within t.0 (omega arith) b (variable_at t.0 t.1 b t.2)

  module _ (l : Derivative) (leads : IsLead l (equation S i)) (v : ℕ) (passed : AreForeignPassed v) where
    pub passed_cause : (fail : PolyFail) → IsWorkCause fail (VariableTries S i v) → IsWorkCause fail (ForeignTries S i)
    passed_cause fail cause =
        work_weaken fail (λ b t. (v, record { lead = t.0; leads = t.1; free = t.2; before = λ w M lt. passed.none w M lt }, t.3)) cause

    module _ (N : LinearForm) (found : IsForeignBy S i v N) where
      pub foreign_at : IsForeignAt S i v N
      foreign_at = record { place = place; foreign = found; first = λ w M lt. passed.none w M lt }

      pub found_fit : IsWorkWithin (VariableTries S i v) → IsWorkWithin (ForeignTries S i)
      found_fit within b t = go (at_most_or_greater v t.0)
        where
          go : (v ≤ t.0) ⊎ (t.0 < v) → IsMadeWithin b
          go (inr k) = passed.within t.0 k b (variable_at t.0 t.1 b t.2)
          go (inl k) = last (at_most_or_greater t.0 v)
            where
              last : (t.0 ≤ v) ⊎ (v < t.0) → IsMadeWithin b
              last (inr j) = absurd ((t.1).before v N j found)
              last (inl j) = let same : t.0 ≡ v = omega arith in
                  subst (λ x. IsWorkWithin (VariableTries S i x)) (sym same) within b (variable_at t.0 t.1 b t.2)

  -- ---- the rule
  pub foreign_adds : IsAddingRule n Foreign S (at i) (ForeignTries S i)
  foreign_adds = record {
    tries = λ b t. (t.1).1;
    tried = λ b t. (refl, (place, t));
    alone = λ b m. m;
    applies = λ T a. (refl, (a.0, a.1, a.2));
    unique = λ T U a b. foreign_functional n S T U i valid a b;
    valid = λ T a. (foreign_keeps n S T i valid a).0;
  }

  pub foreign_after : (N : LinearForm) → (v : ℕ) × IsForeignAt S i v N → (T : LinearSystem) → IsTidySystem (with_equation S N) T
      → After Foreign S (at i) T
  foreign_after N f T t = (f.0, N, f.1, t)
