use Rattle.std.proofs.Common.{◌≡◌, take}
use Rattle.lie_form.specs.DerivativeTerms.{derivative_terms}
use Rattle.lie_form.proofs.FormBounds.{over_entries}
use Rattle.lie_solved.specs.SolvedForms.{solved_equations}
use Rattle.lie_determining.specs.SymbolicBulks.{degree_in_form}
use Rattle.lie_determining.proofs.ReducedForms.{reduced_put}
use Rattle.lie_determining.proofs.symbolic_reduction.reduced_form.Given as goal

abbrev pub invariant-loop-term : goal.invariant-loop-term
invariant-loop-term l = l.sum ≡ over_entries (reduced_put (solved_equations l.space l.rules) (λ w. degree_in_form w l.form)) (take l.term-index (derivative_terms l.term-items))
