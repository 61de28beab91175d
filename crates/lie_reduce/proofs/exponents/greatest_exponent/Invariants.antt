use Rattle.std.proofs.Common.{◌≡◌, take}
use Rattle.lie_reduce.specs.Reductions.{greatest_exponent}
use Rattle.lie_reduce.proofs.exponents.greatest_exponent.Given as goal

abbrev pub invariant-loop-p : goal.invariant-loop-p
invariant-loop-p l = l.greatest ≡ greatest_exponent (take l.p-index l.polynomials) l.number
