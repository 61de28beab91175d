use Rattle.std.proofs.Common.{map}
use Rattle.lie_lin.specs.Systems.{unknown_of}
use Rattle.lie_normal.proofs.DerivativeTurns.{IsBetween}
use Rattle.lie_normal.proofs.derivatives.derived_between.Given as goal

abbrev pub invariant-loop-var : goal.invariant-loop-var
invariant-loop-var l = IsBetween (map unknown_of l.unknowns) l.from.counts l.to.counts l.eq l.var l.made
