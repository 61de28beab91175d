use Rattle.std.proofs.Common.{◌≡◌, ◌++◌}
use Rattle.lie_sample.specs.Family.{family_sum}
use Rattle.lie_sample.proofs.family.push_sum.Given as goal

abbrev pub invariant-loop-j : goal.invariant-loop-j
invariant-loop-j l = l.text.items ≡ l.fn.text.items ++ family_sum l.k l.j
