-- Derivatives of unknown functions.
use Rattle.lie_math.specs.Counts.{Derivative, trimmed}
use Rattle.lie_jet.specs.declared.derivative.Der.{Der}

-- counts past the end of a list are 0, so zeros at the end are left out
abbrev pub derivative_of : Der → Derivative
derivative_of d = record { unknown = d.unknown; counts = trimmed d.counts }
