use Rattle.std.proofs.Common.{◌≡◌, take, map, unsigned_abs}
use Rattle.lie_form.specs.DerivativeTerms.{derivative_terms}
use Rattle.lie_form.proofs.FormBounds.{over_entries}
use Rattle.lie_lin.specs.Systems.{unknown_of}
use Rattle.lie_replace.specs.Replacing.{form_of, put_in_term}
use Rattle.lie_replace.proofs.replacing.put_all.Given as goal

abbrev pub invariant-loop-term : goal.invariant-loop-term
invariant-loop-term l = l.sum ≡ over_entries (put_in_term (map unknown_of l.unknowns) l.number (form_of (derivative_terms l.form)) (unsigned_abs l.divisor)) (take l.term-index (derivative_terms l.terms))
