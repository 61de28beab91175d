use Rattle.std.proofs.Common.{◌≡◌}
use Rattle.lie_jet.specs.Derivatives.{derivative_of}
use Rattle.lie_normal.proofs.Lookups.{coefficient_from}
use Rattle.lie_normal.proofs.combining.coefficient_of.Given as goal

abbrev pub invariant-loop-term : goal.invariant-loop-term
invariant-loop-term l = coefficient_from (derivative_of l.der) l.term-index l.terms ≡ coefficient_from (derivative_of l.der) 0 l.terms
