-- Where rules look at a system.
use Rattle.std.specs.Prelude.{◌<◌}
use Rattle.lie_math.specs.LinearSystem.{LinearSystem}
use Rattle.lie_steps.specs.Equations.{IsPlace}
use Rattle.lie_steps.specs.Rules.{Rule, Cross, Place, At}

-- the system has the equation, or for cross the two equations in their order
abbrev pub IsPlaceOf : Rule → LinearSystem → Place → Type 0
IsPlaceOf Cross S p = (p.first < p.second) × IsPlace S p.second
IsPlaceOf rule S p = At p (IsPlace S)
