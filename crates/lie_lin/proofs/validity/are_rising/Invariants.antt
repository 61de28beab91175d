use Rattle.std.proofs.Common.{take, ◌≤◌, ◌-◌, length}
use Rattle.lie_lin.specs.Validity.{AreRising}
use Rattle.lie_lin.proofs.validity.are_rising.Given as goal

abbrev pub invariant-loop-i : goal.invariant-loop-i
invariant-loop-i l = record { from : 1 ≤ l.i; rise : AreRising (take l.i l.unknowns) }

abbrev pub decreases-loop-i : goal.decreases-loop-i
decreases-loop-i l = length l.unknowns - l.i
