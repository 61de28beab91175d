use Rattle.std.proofs.Common.{◌≡◌, ◌≤◌, ◌-◌, ◌++◌, take, drop, length}
use Rattle.lie_lin.specs.Forms.{derivatives_of, placed}
use Rattle.lie_jet.specs.Derivatives.{derivative_of}
use Rattle.lie_lin.proofs.derivatives.place_of.Given as goal

abbrev pub invariant-loop-i : goal.invariant-loop-i
invariant-loop-i l = record {
  passed : placed (derivative_of l.der) (derivatives_of l.ders) ≡ derivatives_of (take l.i l.ders) ++ placed (derivative_of l.der) (derivatives_of (drop l.i l.ders));
  bound : l.i ≤ length l.ders;
}

abbrev pub decreases-loop-i : goal.decreases-loop-i
decreases-loop-i l = length l.ders - l.i
