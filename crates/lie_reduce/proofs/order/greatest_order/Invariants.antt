use Rattle.std.specs.Prelude.{◌≡◌, ◌≤◌, take}
use Rattle.lie_geometry.specs.Invariance.{greatest_order}
use Rattle.lie_solved.specs.SolvedForms.{solved_equations}
use Rattle.lie_reduce.proofs.order.greatest_order.Given as goal

abbrev pub invariant-loop-rule : goal.invariant-loop-rule
invariant-loop-rule l = (l.greatest ≡ greatest_order l.space (solved_equations l.space (take l.rule-index l.rules))) × (l.greatest ≤ 6)
