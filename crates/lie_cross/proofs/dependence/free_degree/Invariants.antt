use Rattle.std.proofs.Common.{◌≡◌, ◌≤◌, length, drop, map, cond}
use Rattle.lie_math.specs.Natural.{maxima}
use Rattle.lie_math.specs.Powers.{degree_in}
use Rattle.lie_math.specs.SortedSum.{sum_of_entries}
use Rattle.lie_lin.specs.Forms.{coefficients_of}
use Rattle.lie_lin.specs.Systems.{unknown_of}
use Rattle.lie_steps.specs.Equations.{depends}
use Rattle.lie_cross.proofs.dependence.free_degree.Given as goal

abbrev pub invariant-loop-i : goal.invariant-loop-i
invariant-loop-i l = record {
  inside : l.i ≤ length l.terms;
  degree : l.degree ≡ sum_of_entries maxima (λ d a. cond (depends (map unknown_of l.unknowns) d.unknown l.var) 0 (degree_in l.var a))
      (coefficients_of (drop l.i l.terms));
}

abbrev pub decreases-loop-i : goal.decreases-loop-i
decreases-loop-i l = l.i
