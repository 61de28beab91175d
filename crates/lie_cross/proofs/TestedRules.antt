-- Rules that are tested at a place: what is told, and the actions of the test.
use Rattle.std.specs.Prelude.{◌≡◌, ℕ, ◌<◌, Bool, Option, Some, None, is_some, MatchOption}
use Rattle.std.proofs.Common.{refl, sym, subst}
use Rattle.lie_math.specs.LinearForm.{LinearForm}
use Rattle.lie_math.specs.LinearSystem.{LinearSystem}
use Rattle.lie_systems.specs.Works.{Made, IsWorkWithin}
use Rattle.lie_ring.specs.declared.failures.PolyFail.{PolyFail}
use Rattle.lie_steps.specs.Cross.{IsCrossedAt, AppliesCross, CrossTries}
use Rattle.lie_steps.specs.Equations.{IsPlace}
use Rattle.lie_steps.specs.Foreign.{IsForeignAt, AppliesForeign, ForeignTries}
use Rattle.lie_steps.specs.Isolate.{IsIsolatedAt, AppliesIsolate, IsolateTries}
use Rattle.lie_steps.specs.Rules.{Isolate, Foreign, Cross, Tries}
use Rattle.lie_normal.specs.WorkCauses.{IsWorkCause}
use Rattle.lie_normal.proofs.WorkSteps.{work_weaken}
use Rattle.lie_change.specs.Tested.{IsTested}
use Rattle.lie_change.specs.Tried.{at}

module _ (S : LinearSystem) (i : ℕ) where
  pub isolate_fits : IsWorkWithin (IsolateTries S i) → IsWorkWithin (Tries Isolate S (at i))
  isolate_fits w b t = w b t.1.1

  pub isolate_cause : (fail : PolyFail) → IsPlace S i → IsWorkCause fail (IsolateTries S i) → IsWorkCause fail (Tries Isolate S (at i))
  isolate_cause fail p c = work_weaken fail (λ b t. (refl, (p, t))) c

  pub foreign_fits : IsWorkWithin (ForeignTries S i) → IsWorkWithin (Tries Foreign S (at i))
  foreign_fits w b t = w b t.1.1

  pub foreign_cause : (fail : PolyFail) → IsPlace S i → IsWorkCause fail (ForeignTries S i) → IsWorkCause fail (Tries Foreign S (at i))
  foreign_cause fail p c = work_weaken fail (λ b t. (refl, (p, t))) c

module _ (S : LinearSystem) (i j : ℕ) where
  pub cross_fits : IsWorkWithin (CrossTries S i j) → IsWorkWithin (Tries Cross S (record { first = i; second = j }))
  cross_fits w b t = w b t.2

  pub cross_cause : (fail : PolyFail) → i < j → IsPlace S j → IsWorkCause fail (CrossTries S i j)
      → IsWorkCause fail (Tries Cross S (record { first = i; second = j }))
  cross_cause fail o p c = work_weaken fail (λ b t. (o, p, t)) c

-- ---- what is told of what the test finds
module _ (S : LinearSystem) (i : ℕ) where
  pub isolate_told : (found : Option LinearForm) → MatchOption found (¬ (AppliesIsolate S i)) (λ P. (v : ℕ) × IsIsolatedAt S i v P)
      → (told : Bool) → told ≡ is_some found → IsTested Isolate (at i) S told
  isolate_told (Some P) h told e = subst (IsTested Isolate (at i) S) (sym e) (refl, (h.0, P, h.1))
  isolate_told None h told e = subst (IsTested Isolate (at i) S) (sym e) (λ a. h a.1)

  pub foreign_told : (found : Option LinearForm) → MatchOption found (¬ (AppliesForeign S i)) (λ N. (v : ℕ) × IsForeignAt S i v N)
      → (told : Bool) → told ≡ is_some found → IsTested Foreign (at i) S told
  foreign_told (Some N) h told e = subst (IsTested Foreign (at i) S) (sym e) (refl, (h.0, N, h.1))
  foreign_told None h told e = subst (IsTested Foreign (at i) S) (sym e) (λ a. h a.1)

pub cross_told : (S : LinearSystem) (i j : ℕ) (found : Option LinearForm)
    → MatchOption found (¬ (AppliesCross S i j)) (IsCrossedAt S i j)
    → (told : Bool) → told ≡ is_some found → IsTested Cross (record { first = i; second = j }) S told
cross_told S i j (Some N) h told e = subst (IsTested Cross (record { first = i; second = j }) S) (sym e) (N, h)
cross_told S i j None h told e = subst (IsTested Cross (record { first = i; second = j }) S) (sym e) h
