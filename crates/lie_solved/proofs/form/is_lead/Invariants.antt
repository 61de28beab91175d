use Rattle.std.proofs.Common.{◌≡◌, false, take}
use Rattle.lie_geometry.specs.SolvedEquations.{is_lead}
use Rattle.lie_solved.specs.SolvedForms.{solved_equations}
use Rattle.lie_solved.proofs.form.is_lead.Given as goal

abbrev pub invariant-loop-rule : goal.invariant-loop-rule
invariant-loop-rule l = is_lead (solved_equations l.space (take l.rule-index l.rules)) l.number ≡ false
