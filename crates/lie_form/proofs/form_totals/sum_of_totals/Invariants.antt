use Rattle.std.proofs.Common.{◌≡◌, take}
use Rattle.lie_form.specs.DerivativeTerms.{derivative_terms}
use Rattle.lie_form.specs.FormTotals.{total_of_term}
use Rattle.lie_form.proofs.FormBounds.{over_entries}
use Rattle.lie_form.proofs.form_totals.sum_of_totals.Given as goal

abbrev pub invariant-loop-term : goal.invariant-loop-term
invariant-loop-term l = l.sum ≡ over_entries (total_of_term l.space l.i) (take l.term-index (derivative_terms l.term-items))
