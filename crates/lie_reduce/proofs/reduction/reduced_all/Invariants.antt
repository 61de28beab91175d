use Rattle.std.proofs.Common.{◌≡◌, take, map}
use Rattle.lie_geometry.specs.SolvedEquations.{reduced_by}
use Rattle.lie_solved.specs.SolvedForms.{solved_equations}
use Rattle.lie_reduce.specs.Reductions.{greatest_exponent}
use Rattle.lie_reduce.proofs.reduction.reduced_all.Given as goal

abbrev pub invariant-loop-p : goal.invariant-loop-p
invariant-loop-p l = l.made.items ≡ map (reduced_by (solved_equations l.space l.rules) (greatest_exponent l.polynomials)) (take l.p-index l.polynomials)
