use Rattle.std.proofs.Common.{take}
use Rattle.std.specs.List.{AllByRecursion as Every}
use Rattle.lie_solved.specs.SolvedForms.{solved_equations}
use Rattle.lie_solved.specs.Refusals.{HasNoLead}
use Rattle.lie_solved.proofs.form.first_inside.Given as goal

abbrev pub invariant-loop-i : goal.invariant-loop-i
invariant-loop-i l = Every (HasNoLead (solved_equations l.space l.rules)) (solved_equations l.space (take l.i l.rules))
