-- A rule that adds a form that its test finds: what trying it leaves and makes.
use Rattle.std.specs.Prelude.{◌≡◌, ℕ}
use Rattle.std.proofs.Common.{subst, inl, inr}
use Rattle.lie_math.specs.LinearForm.{LinearForm}
use Rattle.lie_math.specs.LinearSystem.{LinearSystem}
use Rattle.lie_systems.specs.ValidSystems.{IsValid}
use Rattle.lie_systems.specs.Works.{Made, IsWorkWithin}
use Rattle.lie_ring.specs.declared.failures.PolyFail.{PolyFail}
use Rattle.lie_steps.specs.Equations.{with_equation}
use Rattle.lie_steps.specs.Rules.{Rule, Place, Applies, After, Tries, Makes}
use Rattle.lie_steps.specs.Tidying.{IsTidySystem}
use Rattle.lie_steps.proofs.Tidied.{tidy_exists}
use Rattle.lie_normal.specs.WorkCauses.{IsWorkCause}
use Rattle.lie_normal.proofs.WorkSteps.{work_weaken}
use Rattle.lie_change.specs.Ends.{EndMakes, StaysValid}
use Rattle.lie_change.specs.Tried.{TryMakes}

-- the test makes what P says, and nothing more is made before the end; the rule applies where it makes a system, and makes one at most
pub record IsAddingRule (n : ℕ) (r : Rule) (S : LinearSystem) (p : Place) (P : Made → Type 0) : Type 0 where
  pub tries : (b : Made) → Tries r S p b → P b
  pub tried : (b : Made) → P b → Tries r S p b
  pub alone : (b : Made) → ¬ (Makes r S p b)
  pub applies : (T : LinearSystem) → After r S p T → Applies r S p
  pub unique : (T U : LinearSystem) → After r S p T → After r S p U → T ≡ U
  pub valid : (T : LinearSystem) → After r S p T → IsValid n T

module _ (n : ℕ) (r : Rule) (S : LinearSystem) (p : Place) (P : Made → Type 0) (is : IsAddingRule n r S p P) where
  pub nothing_fits : IsWorkWithin P → ¬ (Applies r S p) → IsWorkWithin (TryMakes r S p)
  nothing_fits within none b (inl t) = within b (is.tries b t)
  nothing_fits within none b (inr t) = absurd (none (is.applies t.0 t.1))

  -- the rule adds N
  module _ (N : LinearForm) (after : (T : LinearSystem) → IsTidySystem (with_equation S N) T → After r S p T) where
    pub added_valid : StaysValid n (with_equation S N)
    added_valid T t = is.valid T (after T t)

    pub added_cause : (fail : PolyFail) → IsWorkCause fail (EndMakes (with_equation S N)) → IsWorkCause fail (TryMakes r S p)
    added_cause fail cause = work_weaken fail (λ b e. inr (e.0, after e.0 e.1, inr e.2)) cause

    added : (T : LinearSystem) → After r S p T → IsTidySystem (with_equation S N) T
    added T a = let u = tidy_exists (with_equation S N) in subst (IsTidySystem (with_equation S N)) (is.unique u.0 T (after u.0 u.1) a) u.1

    pub added_fits : IsWorkWithin P → IsWorkWithin (EndMakes (with_equation S N)) → IsWorkWithin (TryMakes r S p)
    added_fits within end b (inl t) = within b (is.tries b t)
    added_fits within end b (inr (T, a, inl m)) = absurd (is.alone b m)
    added_fits within end b (inr (T, a, inr e)) = end b (T, added T a, e)
