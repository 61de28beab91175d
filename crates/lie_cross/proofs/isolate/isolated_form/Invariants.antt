use Rattle.lie_steps.specs.Equations.{equation}
use Rattle.lie_steps.specs.Isolate.{IsIsolatedBy}
use Rattle.lie_cross.specs.Isolate.{IsolationTries}
use Rattle.lie_cross.specs.Variables.{ArePassed}
use Rattle.lie_cross.proofs.isolate.isolated_form.Given as goal

abbrev pub invariant-loop-var : goal.invariant-loop-var
invariant-loop-var l =
    ArePassed (IsIsolatedBy l.system.system.unknowns (equation l.system.system l.place))
    (IsolationTries l.system.system.unknowns (equation l.system.system l.place)) l.var
