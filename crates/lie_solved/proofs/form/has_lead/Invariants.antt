use Rattle.std.proofs.Common.{◌≡◌, false, take}
use Rattle.std.specs.List.{list_any}
use Rattle.lie_geometry.specs.SolvedEquations.{is_lead}
use Rattle.lie_solved.specs.SolvedForms.{solved_equations}
use Rattle.lie_solved.specs.Equations.{variables_in}
use Rattle.lie_solved.proofs.form.has_lead.Given as goal

abbrev pub invariant-loop-pair : goal.invariant-loop-pair
invariant-loop-pair l = list_any (is_lead (solved_equations l.space l.rules)) (variables_in (take l.pair-index l.pairs)) ≡ false
