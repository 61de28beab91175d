-- The equation f = 0: the unknown is replaced by 0.
use Rattle.std.specs.Prelude.{◌≡◌, ℕ, []}
use Rattle.std.specs.List.{Contains}
use Rattle.lie_math.specs.LinearForm.{no_form, unknown_form}
use Rattle.lie_math.specs.LinearSystem.{LinearSystem}
use Rattle.lie_systems.specs.Works.{Made}
use Rattle.lie_steps.specs.Equations.{equation, IsPlace}
use Rattle.lie_steps.specs.Replacement.{eliminated, replacement_made}
use Rattle.lie_steps.specs.Tidying.{IsTidySystem}

-- the i-th equation is f = 0
pub record IsZeroAt (S : LinearSystem) (i f : ℕ) : Type 0 where
  pub place : IsPlace S i
  pub is : equation S i ≡ unknown_form f

-- f and the equation go
abbrev pub zeroed : LinearSystem → ℕ → ℕ → LinearSystem
zeroed S i f = eliminated S i f no_form 1 []

abbrev pub AppliesZero : LinearSystem → ℕ → Type 0
AppliesZero S i = (f : ℕ) × IsZeroAt S i f

abbrev pub AfterZero : LinearSystem → ℕ → LinearSystem → Type 0
AfterZero S i T = (f : ℕ) × IsZeroAt S i f × IsTidySystem (zeroed S i f) T

-- the actions of the step
abbrev pub ZeroMakes : LinearSystem → ℕ → Made → Type 0
ZeroMakes S i b = (f : ℕ) × IsZeroAt S i f × Contains (replacement_made S i f no_form 1 []) b
