use Rattle.std.proofs.Common.{◌≡◌, false, take}
use Rattle.std.specs.List.{list_any}
use Rattle.lie_geometry.specs.SolvedEquations.{is_lead}
use Rattle.lie_solved.specs.SolvedForms.{solved_equations}
use Rattle.lie_solved.specs.Equations.{variables_of}
use Rattle.lie_solved.proofs.form.have_lead.Given as goal

abbrev pub invariant-loop-term : goal.invariant-loop-term
invariant-loop-term l = list_any (is_lead (solved_equations l.space l.rules)) (variables_of (take l.term-index l.terms)) ≡ false
