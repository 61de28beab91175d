use Rattle.std.proofs.Common.{◌≡◌, map, None}
use Rattle.lie_ring.specs.Entries.{entries}
use Rattle.lie_print.specs.PrintedTerms.{printed}
use Rattle.lie_print.proofs.printed_term.polynomial_terms.Given as goal

abbrev pub invariant-loop-monomial : goal.invariant-loop-monomial
invariant-loop-monomial l = map printed l.terms.items ≡ map (λ t. (t.1, t.0, None)) (entries (λ z. z) l.yielded)
