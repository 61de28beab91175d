use Rattle.std.proofs.Common.{take, ◌≤◌, ◌-◌, length}
use Rattle.std.specs.List.Sorted.{IsStrictlySortedBy}
use Rattle.lie_systems.specs.EquationOrder.{equation_cmp}
use Rattle.lie_lin.proofs.validity.are_in_order.Given as goal

abbrev pub invariant-loop-i : goal.invariant-loop-i
invariant-loop-i l = record { from : 1 ≤ l.i; rise : IsStrictlySortedBy equation_cmp (take l.i l.list) }

abbrev pub decreases-loop-i : goal.decreases-loop-i
decreases-loop-i l = length l.list - l.i
