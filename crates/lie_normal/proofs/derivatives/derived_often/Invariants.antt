use Rattle.std.proofs.Common.{map}
use Rattle.lie_lin.specs.Systems.{unknown_of}
use Rattle.lie_normal.proofs.DerivativeTurns.{IsOften}
use Rattle.lie_normal.proofs.derivatives.derived_often.Given as goal

abbrev pub invariant-loop : goal.invariant-loop
invariant-loop l = IsOften (map unknown_of l.unknowns) l.var l.times l.fn.eq l.counter l.made
