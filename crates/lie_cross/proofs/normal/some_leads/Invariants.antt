use Rattle.std.proofs.Common.{take}
use Rattle.std.specs.List.{AllByRecursion as Every}
use Rattle.lie_jet.specs.Derivatives.{derivative_of}
use Rattle.lie_cross.proofs.ReducibleForms.{IsNotLed}
use Rattle.lie_cross.proofs.normal.some_leads.Given as goal

abbrev pub invariant-loop-equation : goal.invariant-loop-equation
invariant-loop-equation l = Every (IsNotLed (derivative_of l.der)) (take l.equation-index l.list)
