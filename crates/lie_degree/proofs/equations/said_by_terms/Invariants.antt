use Rattle.lie_degree.proofs.SaidSums.{IsSaying}
use Rattle.lie_degree.proofs.equations.said_by_terms.Given as goal

abbrev pub invariant-loop-term : goal.invariant-loop-term
invariant-loop-term l = IsSaying l.column l.terms l.term-index l.sum
