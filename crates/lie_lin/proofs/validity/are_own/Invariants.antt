use Rattle.std.proofs.Common.{ℕ, ◌≡◌, ◌<◌, ◌-◌, true, get_or}
use Rattle.lie_lin.specs.Systems.{has_bit}
use Rattle.lie_lin.proofs.validity.are_own.Given as goal

abbrev pub invariant-loop-i : goal.invariant-loop-i
invariant-loop-i l = (v : ℕ) → v < l.i → ¬ (get_or l.counts v 0 ≡ 0) → has_bit l.bits v ≡ true

abbrev pub decreases-loop-i : goal.decreases-loop-i
decreases-loop-i l = 8 - l.i
