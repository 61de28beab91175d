use Rattle.std.proofs.Common.{◌≡◌, map, take}
use Rattle.lie_form.specs.DerivativeTerms.{derivative_terms}
use Rattle.lie_determining.proofs.symbolic_reduction.coefficients.Given as goal

abbrev pub invariant-loop-term : goal.invariant-loop-term
invariant-loop-term l = l.made.items ≡ map (λ t. t.1) (take l.term-index (derivative_terms l.term-items))
