use Rattle.std.proofs.Common.{◌≡◌, ◌++◌, map}
use Rattle.lie_ring.specs.Entries.{entries}
use Rattle.lie_print.specs.PrintedTerms.{printed}
use Rattle.lie_report.proofs.Lists.{with_base}
use Rattle.lie_report.proofs.terms.push_component.Given as goal

abbrev pub invariant-loop-monomial : goal.invariant-loop-monomial
invariant-loop-monomial l = map printed l.terms.items ≡ map printed l.fn.terms.items ++ map (with_base l.variable) (entries (λ z. z) l.yielded)
