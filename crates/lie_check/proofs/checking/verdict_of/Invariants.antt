use Rattle.lie_math.specs.VectorField.{component}
use Rattle.lie_check.proofs.CheckSteps.{AreChecked, IsVerdictOf}
use Rattle.lie_check.proofs.checking.verdict_of.Given as goal

abbrev pub invariant-loop-i : goal.invariant-loop-i
invariant-loop-i l = record {
  verdict : IsVerdictOf l.space (component l.field) l.rules l.i l.verdict;
  done : AreChecked l.space (component l.field) l.rules l.i;
}
