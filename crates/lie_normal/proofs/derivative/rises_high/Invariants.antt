use Rattle.std.proofs.Common.{◌≤◌, length, drop, map}
use Rattle.std.specs.List.{AllByRecursion as Every}
use Rattle.lie_form.specs.DerivativeTerms.{derivative_terms}
use Rattle.lie_lin.specs.Systems.{unknown_of}
use Rattle.lie_normal.specs.Orders.{StaysLow}
use Rattle.lie_normal.proofs.derivative.rises_high.Given as goal

abbrev pub invariant-loop-i : goal.invariant-loop-i
invariant-loop-i l = record { inside : l.i ≤ length l.terms; low : Every (StaysLow (map unknown_of l.unknowns) l.var) (drop l.i (derivative_terms l.terms)) }

abbrev pub decreases-loop-i : goal.decreases-loop-i
decreases-loop-i l = l.i
