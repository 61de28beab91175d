use Rattle.std.proofs.Common.{◌≡◌, ◌++◌, ◌-◌, take, map}
use Rattle.std.specs.Prelude.{replicate}
use Rattle.lie_readback.specs.Factors.{count_in}
use Rattle.lie_readback.proofs.factors.counts_in.Given as goal

abbrev pub invariant-loop-i : goal.invariant-loop-i
invariant-loop-i l = l.counts ≡ map (count_in l.text) (take l.i l.names) ++ replicate (8 - l.i) 0
