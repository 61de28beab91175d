use Rattle.std.proofs.Common.{◌≡◌, ◌++◌, replicate}
use Rattle.lie_replace.proofs.iterated.push_often.Given as goal

abbrev pub invariant-loop-left : goal.invariant-loop-left
invariant-loop-left l = l.vars.items ++ replicate l.left l.var ≡ l.initial.vars.items ++ replicate l.count l.var

abbrev pub decreases-loop-left : goal.decreases-loop-left
decreases-loop-left l = l.left
