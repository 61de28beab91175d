use Rattle.std.proofs.Common.{◌≡◌, ◌≤◌, length, drop}
use Rattle.lie_math.specs.Monomial.{exponent}
use Rattle.lie_math.specs.Natural.{maxima}
use Rattle.lie_math.specs.SortedSum.{sum_of_entries}
use Rattle.lie_cross.proofs.dependence.degree_in.Given as goal

abbrev pub invariant-loop-i : goal.invariant-loop-i
invariant-loop-i l = record {
  inside : l.i ≤ length l.terms.items;
  degree : l.degree ≡ sum_of_entries maxima (λ m a. exponent m l.var) (drop l.i l.terms.items);
}

abbrev pub decreases-loop-i : goal.decreases-loop-i
decreases-loop-i l = l.i
