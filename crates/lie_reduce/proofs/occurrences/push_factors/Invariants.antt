use Rattle.std.proofs.Common.{◌≡◌, ◌++◌, take}
use Rattle.lie_solved.specs.Equations.{variables_in}
use Rattle.lie_reduce.proofs.occurrences.push_factors.Given as goal

abbrev pub invariant-loop-pair : goal.invariant-loop-pair
invariant-loop-pair l = l.numbers.items ≡ l.fn.numbers.items ++ variables_in (take l.pair-index l.pairs)
