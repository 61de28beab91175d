use Rattle.lie_rules.proofs.OneVariable.{AreZeroBefore}
use Rattle.lie_rules.proofs.integrate.only_variable.Given as goal

abbrev pub invariant-loop-var : goal.invariant-loop-var
invariant-loop-var l = AreZeroBefore l.var l.der.counts
