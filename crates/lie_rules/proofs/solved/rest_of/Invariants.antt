use Rattle.std.proofs.Common.{◌≡◌, take}
use Rattle.lie_jet.specs.Derivatives.{derivative_of}
use Rattle.lie_lin.specs.Forms.{coefficients_of}
use Rattle.lie_rules.proofs.SolvedSteps.{others}
use Rattle.lie_rules.proofs.solved.rest_of.Given as goal

abbrev pub invariant-loop-term : goal.invariant-loop-term
invariant-loop-term l = coefficients_of l.out.items ≡ others (derivative_of l.der) (coefficients_of (take l.term-index l.term-items))
