use Rattle.std.proofs.Common.{drop}
use Rattle.lie_poly.specs.Words.{RiseFrom}
use Rattle.lie_poly.proofs.words.are_rising.Given as goal

abbrev pub invariant-loop-var : goal.invariant-loop-var
invariant-loop-var l = RiseFrom l.least (drop l.var-index l.vars) → RiseFrom 0 l.vars
