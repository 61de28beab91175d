-- What the test of the rule foreign makes where it comes to a variable.
use Rattle.std.specs.Prelude.{◌≡◌, ℕ, ◌⊎◌, false}
use Rattle.lie_math.specs.Counts.{Derivative}
use Rattle.lie_math.specs.LinearSystem.{LinearSystem}
use Rattle.lie_systems.specs.Leads.{IsLead}
use Rattle.lie_systems.specs.Works.{Made, AForm}
use Rattle.lie_steps.specs.Bulks.{derivative_bulk}
use Rattle.lie_steps.specs.Derivatives.{derivative}
use Rattle.lie_steps.specs.Equations.{equation, depends}
use Rattle.lie_steps.specs.NormalForm.{NormalFormMakes}

-- the derivative of the i-th equation by v, and then its normal form
abbrev pub DerivativeMakes : LinearSystem → ℕ → ℕ → Made → Type 0
DerivativeMakes S i v b = (b ≡ AForm (derivative_bulk S.unknowns v (equation S i)))
    ⊎ NormalFormMakes S.unknowns S.equations (derivative S.unknowns v (equation S i)) b

-- these, where the lead's unknown does not depend on v
abbrev pub VariableTries : LinearSystem → ℕ → ℕ → Made → Type 0
VariableTries S i v b = (l : Derivative) × IsLead l (equation S i) × (depends S.unknowns l.unknown v ≡ false) × DerivativeMakes S i v b
