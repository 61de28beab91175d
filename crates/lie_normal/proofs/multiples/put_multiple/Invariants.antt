use Rattle.std.proofs.Common.{◌≡◌, take}
use Rattle.lie_math.specs.LinearForm.{◌+ᶠ◌}
use Rattle.lie_form.specs.DerivativeTerms.{derivative_terms}
use Rattle.lie_form.proofs.FormBounds.{over_entries}
use Rattle.lie_normal.specs.TermSums.{multiple_term}
use Rattle.lie_normal.proofs.multiples.put_multiple.Given as goal

abbrev pub invariant-loop-term : goal.invariant-loop-term
invariant-loop-term l = l.sum ≡ l.fn.sum +ᶠ over_entries (multiple_term l.factor) (take l.term-index (derivative_terms l.terms))
