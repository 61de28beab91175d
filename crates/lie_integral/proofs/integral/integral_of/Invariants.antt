use Rattle.std.proofs.Common.{◌≡◌, take}
use Rattle.std.specs.Prelude.{unsigned_abs}
use Rattle.lie_lin.specs.Forms.{coefficients_of}
use Rattle.lie_integral.proofs.IntegralForms.{integrated_entries}
use Rattle.lie_integral.proofs.integral.integral_of.Given as goal

abbrev pub invariant-loop-term : goal.invariant-loop-term
invariant-loop-term l =
    coefficients_of l.terms.items ≡ integrated_entries l.integration.number l.integration.var l.integration.times
    (unsigned_abs l.denominator) (coefficients_of (take l.term-index l.term-items))
