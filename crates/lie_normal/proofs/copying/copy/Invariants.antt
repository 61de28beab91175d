use Rattle.std.proofs.Common.{◌≡◌, take}
use Rattle.lie_normal.proofs.copying.copy.Given as goal

abbrev pub invariant-loop-term : goal.invariant-loop-term
invariant-loop-term l = l.out.items ≡ take l.term-index l.term-items
