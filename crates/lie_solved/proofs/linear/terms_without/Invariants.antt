use Rattle.std.proofs.Common.{◌≡◌, take}
use Rattle.lie_solved.specs.Equations.{rest_of}
use Rattle.lie_solved.proofs.linear.terms_without.Given as goal

abbrev pub invariant-loop-term : goal.invariant-loop-term
invariant-loop-term l = l.out.items ≡ rest_of l.number l.negative (take l.term-index l.terms)
