use Rattle.std.proofs.Common.{◌≤◌, ◌-◌, length}
use Rattle.lie_jet.specs.Derivatives.{derivative_of}
use Rattle.lie_cross.proofs.OtherEquations.{NoneLeadsBefore}
use Rattle.lie_cross.proofs.reduce.another_leads.Given as goal

abbrev pub invariant-loop-at : goal.invariant-loop-at
invariant-loop-at l = record {
  within : l.from ≤ length l.equations;
  none : NoneLeadsBefore (derivative_of l.der) l.equations l.place l.from;
}

abbrev pub decreases-loop-at : goal.decreases-loop-at
decreases-loop-at l = length l.equations - l.from
