-- What can be reduced in a form by a list of equations.
use Rattle.std.specs.Prelude.{ℕ, ◌<◌, List, length, get_or}
use Rattle.lie_math.specs.Counts.{Derivative}
use Rattle.lie_math.specs.LinearForm.{LinearForm, no_form}
use Rattle.lie_steps.specs.NormalForm.{IsLedBy, IsReducible}

-- the lead of some equation of the list divides d
abbrev pub SomeLeads : List LinearForm → Derivative → Type 0
SomeLeads Ls d = (j : ℕ) × (j < length Ls) × IsLedBy d (get_or Ls j no_form)

-- the lead of some equation of the list divides a derivative of E
abbrev pub SomeIsReducible : List LinearForm → LinearForm → Type 0
SomeIsReducible Ls E = (d : Derivative) × IsReducible Ls E d
