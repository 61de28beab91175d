use Rattle.std.proofs.Common.{◌≡◌, ◌-◌, map, drop, length}
use Rattle.lie_math.specs.Limits.{IsWithinLimits}
use Rattle.lie_lin.specs.Forms.{coefficients_of}
use Rattle.lie_readback.specs.Groups.{group_seen}
use Rattle.lie_readback.proofs.Found.{FoundSoFar}
use Rattle.lie_readback.proofs.Grouping.{IsWithin, part_of}
use Rattle.lie_readback.proofs.forms.coefficients_of.Given as goal

abbrev pub decreases-loop-i : goal.decreases-loop-i
decreases-loop-i l = length l.groups - l.i

abbrev pub invariant-loop-i : goal.invariant-loop-i
invariant-loop-i l = FoundSoFar IsWithin part_of (map group_seen l.groups) (coefficients_of l.coefficients.items) (map group_seen (drop l.i l.groups))
