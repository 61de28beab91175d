use Rattle.std.proofs.Common.{take}
use Rattle.lie_jet.specs.Derivatives.{derivative_of}
use Rattle.lie_normal.specs.Leads.{NoneDivides}
use Rattle.lie_normal.proofs.leads.first_divisor.Given as goal

abbrev pub invariant-loop-i : goal.invariant-loop-i
invariant-loop-i l = NoneDivides (take l.i l.leads) (derivative_of l.der)
