use Rattle.std.proofs.Common.{take, []}
use Rattle.lie_determining.specs.Equations.{IsNormalisedPart}
use Rattle.lie_lin.specs.EquationLists.{Adds}
use Rattle.lie_determining.proofs.equations.equations_of.Given as goal

abbrev pub invariant-loop-condition : goal.invariant-loop-condition
invariant-loop-condition l = Adds (IsNormalisedPart l.fn.space (take l.condition-index l.conditions)) [] l.equations.items
