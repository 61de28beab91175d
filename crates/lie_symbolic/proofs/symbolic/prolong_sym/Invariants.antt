use Rattle.std.proofs.Common.{◌≡◌}
use Rattle.lie_symbolic.specs.SymbolicCoefficients.{coefficients_among}
use Rattle.lie_symbolic.proofs.symbolic.prolong_sym.Given as goal

abbrev pub invariant-loop-number : goal.invariant-loop-number
invariant-loop-number l = l.made.items ≡ coefficients_among l.space l.numbers l.number
