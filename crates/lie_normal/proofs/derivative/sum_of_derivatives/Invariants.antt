use Rattle.std.proofs.Common.{◌≡◌, take, map}
use Rattle.lie_form.specs.DerivativeTerms.{derivative_terms}
use Rattle.lie_form.proofs.FormBounds.{over_entries}
use Rattle.lie_lin.specs.Systems.{unknown_of}
use Rattle.lie_normal.specs.TermSums.{derivative_term}
use Rattle.lie_normal.proofs.derivative.sum_of_derivatives.Given as goal

abbrev pub invariant-loop-term : goal.invariant-loop-term
invariant-loop-term l = l.sum ≡ over_entries (derivative_term (map unknown_of l.unknowns) l.var) (take l.term-index (derivative_terms l.terms))
