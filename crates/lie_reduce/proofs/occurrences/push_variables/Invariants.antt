use Rattle.std.proofs.Common.{◌≡◌, ◌++◌, take}
use Rattle.lie_solved.specs.Equations.{variables_of}
use Rattle.lie_reduce.proofs.occurrences.push_variables.Given as goal

abbrev pub invariant-loop-term : goal.invariant-loop-term
invariant-loop-term l = l.numbers.items ≡ l.fn.numbers.items ++ variables_of (take l.term-index l.terms)
