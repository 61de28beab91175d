use Rattle.std.proofs.Common.{take}
use Rattle.std.specs.List.{AllByRecursion as Every}
use Rattle.lie_math.specs.Counts.{Derivative}
use Rattle.lie_math.specs.Polynomial.{WholePolynomial}
use Rattle.lie_lin.specs.Forms.{coefficients_of}
use Rattle.lie_normal.specs.Leads.{NoneDivides}
use Rattle.lie_normal.proofs.reduction.greatest_divided.Given as goal

abbrev pub invariant-loop-term : goal.invariant-loop-term
invariant-loop-term l = Every (λ (e : Derivative × WholePolynomial). NoneDivides l.leads e.0) (take l.term-index (coefficients_of l.term-items))
