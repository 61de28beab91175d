use Rattle.std.proofs.Common.{◌≤◌, drop, length}
use Rattle.std.specs.List.{AllByRecursion as Every}
use Rattle.lie_lin.specs.Forms.{AreCoefficients}
use Rattle.lie_readback.specs.WellFormed.{IsKeptCoefficient}
use Rattle.lie_readback.proofs.forms.are_coefficients.Given as goal

abbrev pub decreases-loop-i : goal.decreases-loop-i
decreases-loop-i l = l.i

abbrev pub invariant-loop-i : goal.invariant-loop-i
invariant-loop-i l = record {
  within : l.i ≤ length l.coefficients;
  ordered : AreCoefficients (drop l.i l.coefficients);
  kept : Every IsKeptCoefficient (drop l.i l.coefficients);
}
