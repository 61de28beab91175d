use Rattle.std.proofs.Common.{take}
use Rattle.std.specs.List.{AllByRecursion as Every}
use Rattle.lie_solved.specs.SolvedForms.{solved_equations}
use Rattle.lie_reduce.specs.ReducedTerms.{IsKept}
use Rattle.lie_reduce.proofs.reduction.has_removed.Given as goal

abbrev pub invariant-loop-pair : goal.invariant-loop-pair
invariant-loop-pair l = Every (IsKept (solved_equations l.space l.rules)) (take l.pair-index l.pairs)
