use Rattle.std.proofs.Common.{ℕ, List, take, ◌++◌}
use Rattle.lie_solved.specs.Equations.{IsBest, variables_in}
use Rattle.lie_solved.proofs.lead.greatest_in.Given as goal

abbrev pub invariant-loop-pair : goal.invariant-loop-pair
invariant-loop-pair l = (ws : List ℕ) → IsBest l.space ws l.fn.best → IsBest l.space (ws ++ variables_in (take l.pair-index l.pairs)) l.best
