use Rattle.std.proofs.Common.{◌≡◌, false, take}
use Rattle.lie_geometry.specs.SolvedEquations.{is_lead}
use Rattle.lie_solved.specs.SolvedForms.{solved_equations}
use Rattle.lie_reduce.proofs.reduction.rule_at.Given as goal

abbrev pub invariant-loop-i : goal.invariant-loop-i
invariant-loop-i l = is_lead (solved_equations l.space (take l.i l.rules)) l.number ≡ false
