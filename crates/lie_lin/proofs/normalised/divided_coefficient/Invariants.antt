use Rattle.std.proofs.Common.{◌≡◌, take}
use Rattle.lie_math.proofs.TermWise.{times_list}
use Rattle.lie_lin.proofs.normalised.divided_coefficient.Given as goal

abbrev pub invariant-loop-term : goal.invariant-loop-term
invariant-loop-term l = times_list l.mono l.number l.out.items ≡ take l.term-index l.term-items
