use Rattle.lie_steps.specs.Foreign.{IsForeignBy}
use Rattle.lie_cross.specs.Foreign.{VariableTries}
use Rattle.lie_cross.specs.Variables.{ArePassed}
use Rattle.lie_cross.proofs.foreign.first_form.Given as goal

abbrev pub invariant-loop-var : goal.invariant-loop-var
invariant-loop-var l = ArePassed (IsForeignBy l.system.system l.place) (VariableTries l.system.system l.place) l.var
