-- The derivative of an equation by a variable on which its lead does not depend: its normal form, unless it is empty, is a new equation.
use Rattle.std.specs.Prelude.{◌≡◌, ℕ, ◌<◌, ◌⊎◌, false}
use Rattle.lie_math.specs.Counts.{Derivative}
use Rattle.lie_math.specs.LinearForm.{LinearForm, no_form}
use Rattle.lie_math.specs.LinearSystem.{LinearSystem}
use Rattle.lie_systems.specs.Leads.{IsLead}
use Rattle.lie_systems.specs.Works.{Made, AForm}
use Rattle.lie_steps.specs.Bulks.{derivative_bulk}
use Rattle.lie_steps.specs.Derivatives.{derivative}
use Rattle.lie_steps.specs.Equations.{equation, IsPlace, depends, with_equation}
use Rattle.lie_steps.specs.NormalForm.{IsNormalForm, NormalFormMakes}
use Rattle.lie_steps.specs.Tidying.{IsTidySystem}

-- the lead's unknown does not depend on v, and the derivative by v has the normal form N, which is not empty
pub record IsForeignBy (S : LinearSystem) (i v : ℕ) (N : LinearForm) : Type 0 where
  pub lead : Derivative
  pub leads : IsLead lead (equation S i)
  pub free : depends S.unknowns lead.unknown v ≡ false
  pub normal : IsNormalForm S.unknowns S.equations (derivative S.unknowns v (equation S i)) N
  pub some : ¬ (N ≡ no_form)

-- v is the first such variable
pub record IsForeignAt (S : LinearSystem) (i v : ℕ) (N : LinearForm) : Type 0 where
  pub place : IsPlace S i
  pub foreign : IsForeignBy S i v N
  pub first : (w : ℕ) (M : LinearForm) → w < v → ¬ (IsForeignBy S i w M)

abbrev pub AppliesForeign : LinearSystem → ℕ → Type 0
AppliesForeign S i = (v : ℕ) × (N : LinearForm) × IsForeignAt S i v N

abbrev pub AfterForeign : LinearSystem → ℕ → LinearSystem → Type 0
AfterForeign S i T = (v : ℕ) × (N : LinearForm) × IsForeignAt S i v N × IsTidySystem (with_equation S N) T

-- ---- the actions of the test
-- the test comes to v, on which the lead's unknown does not depend: no variable before gives an equation
pub record IsForeignTried (S : LinearSystem) (i v : ℕ) : Type 0 where
  pub lead : Derivative
  pub leads : IsLead lead (equation S i)
  pub free : depends S.unknowns lead.unknown v ≡ false
  pub before : (w : ℕ) (M : LinearForm) → w < v → ¬ (IsForeignBy S i w M)

-- for each variable that is tried the derivative, and then its normal form
abbrev pub ForeignTries : LinearSystem → ℕ → Made → Type 0
ForeignTries S i b = (v : ℕ) × IsForeignTried S i v
    × ((b ≡ AForm (derivative_bulk S.unknowns v (equation S i)))
    ⊎ NormalFormMakes S.unknowns S.equations (derivative S.unknowns v (equation S i)) b)
