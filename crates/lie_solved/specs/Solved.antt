-- A solved system as contracts see it.
use Rattle.std.specs.Prelude.{List}
use Rattle.lie_geometry.specs.SolvedEquations.{SolvedEquation}
use Rattle.lie_solved.specs.declared.solved.Solved.{Solved}
use Rattle.lie_solved.specs.SolvedForms.{solved_equations}

-- the equations of its rules
abbrev pub equations_of : Solved → List SolvedEquation
equations_of s = solved_equations s.system.space s.rules.items
