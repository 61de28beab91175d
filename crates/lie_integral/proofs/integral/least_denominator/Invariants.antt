use Rattle.std.proofs.Common.{take}
use Rattle.lie_lin.specs.Forms.{triples_of}
use Rattle.lie_integral.specs.Integrals.{IsDenominator}
use Rattle.lie_integral.proofs.integral.least_denominator.Given as goal

abbrev pub invariant-loop-triple : goal.invariant-loop-triple
invariant-loop-triple l = IsDenominator l.integration.number l.integration.var l.integration.times
    (triples_of (take l.triple-index l.list)) l.denominator
