-- An equation with a derivative that the lead of another divides: its normal form by the others takes its place.
use Rattle.std.specs.Prelude.{[], ◌∷◌, ℕ, remove}
use Rattle.lie_math.specs.Counts.{Derivative}
use Rattle.lie_math.specs.LinearForm.{LinearForm}
use Rattle.lie_math.specs.LinearSystem.{LinearSystem}
use Rattle.lie_systems.specs.Works.{Made}
use Rattle.lie_steps.specs.Equations.{equation, IsPlace, with_equations_at}
use Rattle.lie_steps.specs.NormalForm.{IsReducible, IsNormalForm, NormalFormMakes}
use Rattle.lie_steps.specs.Tidying.{IsTidySystem}

abbrev pub AppliesReduce : LinearSystem → ℕ → Type 0
AppliesReduce S i = IsPlace S i × (d : Derivative) × IsReducible (remove S.equations i) (equation S i) d

-- N is the normal form of the i-th equation by the others
pub record IsReducedAt (S : LinearSystem) (i : ℕ) (N : LinearForm) : Type 0 where
  pub applies : AppliesReduce S i
  pub normal : IsNormalForm S.unknowns (remove S.equations i) (equation S i) N

abbrev pub AfterReduce : LinearSystem → ℕ → LinearSystem → Type 0
AfterReduce S i T = (N : LinearForm) × IsReducedAt S i N × IsTidySystem (with_equations_at S i (N ∷ [])) T

-- the actions of the step
abbrev pub ReduceMakes : LinearSystem → ℕ → Made → Type 0
ReduceMakes S i b = AppliesReduce S i × NormalFormMakes S.unknowns (remove S.equations i) (equation S i) b
