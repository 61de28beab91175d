-- Two equations with leads of one unknown, derived until their leads are the same: the normal form of their combination, unless it is
-- empty, is a new equation.
use Rattle.std.specs.Prelude.{◌≡◌, ℕ, ◌<◌, ◌⊎◌, List, [], ◌∷◌, ◌++◌, max}
use Rattle.std.specs.List.{Contains}
use Rattle.lie_math.specs.Counts.{Derivative}
use Rattle.lie_math.specs.LinearForm.{LinearForm, no_form}
use Rattle.lie_math.specs.LinearSystem.{LinearSystem}
use Rattle.lie_systems.specs.Leads.{IsLead}
use Rattle.lie_systems.specs.Works.{Made, AForm}
use Rattle.lie_steps.specs.Bulks.{derivatives_made}
use Rattle.lie_steps.specs.Derivatives.{derivatives, missing}
use Rattle.lie_steps.specs.Equations.{equation, IsPlace, with_equation}
use Rattle.lie_steps.specs.NormalForm.{IsNormalForm, combined, combined_bulk, NormalFormMakes}
use Rattle.lie_steps.specs.Tidying.{IsTidySystem}

-- the least counts that both divide
abbrev pub joined : List ℕ → List ℕ → List ℕ
joined [] K = K
joined (j ∷ J) [] = j ∷ J
joined (j ∷ J) (k ∷ K) = max j k ∷ joined J K

-- the least common multiple of two derivatives of one unknown
abbrev pub least_multiple : Derivative → Derivative → Derivative
least_multiple d e = record { unknown = d.unknown; counts = joined d.counts e.counts }

-- the equation with the lead l, derived until its lead is d
abbrev pub raised_to : LinearSystem → ℕ → Derivative → Derivative → LinearForm
raised_to S i l d = derivatives S.unknowns (missing l.counts d.counts) (equation S i)

-- the i-th equation, with the lead l, and the j-th, with the lead m, derived until their leads are the same, and combined there
abbrev pub crossed : LinearSystem → ℕ → ℕ → Derivative → Derivative → LinearForm
crossed S i j l m = combined (least_multiple l m) (raised_to S i l (least_multiple l m)) (raised_to S j m (least_multiple l m))

-- N, not empty, is the normal form of the combination of the i-th and the j-th equation
pub record IsCrossedAt (S : LinearSystem) (i j : ℕ) (N : LinearForm) : Type 0 where
  pub order : i < j
  pub place : IsPlace S j
  pub lead : Derivative
  pub leads : IsLead lead (equation S i)
  pub other : Derivative
  pub other_leads : IsLead other (equation S j)
  pub unknown : lead.unknown ≡ other.unknown
  pub normal : IsNormalForm S.unknowns S.equations (crossed S i j lead other) N
  pub some : ¬ (N ≡ no_form)

abbrev pub AppliesCross : LinearSystem → ℕ → ℕ → Type 0
AppliesCross S i j = (N : LinearForm) × IsCrossedAt S i j N

abbrev pub AfterCross : LinearSystem → ℕ → ℕ → LinearSystem → Type 0
AfterCross S i j T = (N : LinearForm) × IsCrossedAt S i j N × IsTidySystem (with_equation S N) T

-- ---- the actions of the test
-- the i-th equation derived, then the j-th, and both combined
abbrev pub crossed_made : LinearSystem → ℕ → ℕ → Derivative → Derivative → List Made
crossed_made S i j l m =
    derivatives_made S.unknowns (missing l.counts (least_multiple l m).counts) (equation S i)
    ++ derivatives_made S.unknowns (missing m.counts (least_multiple l m).counts) (equation S j)
    ++ AForm (combined_bulk (least_multiple l m) (raised_to S i l (least_multiple l m)) (raised_to S j m (least_multiple l m))) ∷ []

-- where the leads are of one unknown these, and then the normal form
abbrev pub CrossTries : LinearSystem → ℕ → ℕ → Made → Type 0
CrossTries S i j b = (l : Derivative) × (m : Derivative) × IsLead l (equation S i) × IsLead m (equation S j) × (l.unknown ≡ m.unknown)
    × (Contains (crossed_made S i j l m) b ⊎ NormalFormMakes S.unknowns S.equations (crossed S i j l m) b)
