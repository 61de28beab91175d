use Rattle.std.proofs.Common.{ℕ, ◌≡◌, ◌≤◌, ◌<◌, ◌-◌, false}
use Rattle.lie_lin.specs.Systems.{has_bit}
use Rattle.lie_lin.proofs.validity.are_bits_below.Given as goal

abbrev pub invariant-loop-i : goal.invariant-loop-i
invariant-loop-i l = record { from : l.bound ≤ l.i; clear : (v : ℕ) → l.bound ≤ v → v < l.i → has_bit l.bits v ≡ false }

abbrev pub decreases-loop-i : goal.decreases-loop-i
decreases-loop-i l = 8 - l.i
