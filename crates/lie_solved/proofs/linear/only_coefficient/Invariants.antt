use Rattle.std.proofs.Common.{take}
use Rattle.lie_solved.proofs.LinearTerms.{IsFound, IsAlone}
use Rattle.lie_solved.proofs.linear.only_coefficient.Given as goal

abbrev pub invariant-loop-term : goal.invariant-loop-term
invariant-loop-term l = record {
  found : IsFound l.number l.terms (take l.term-index l.terms) l.found;
  alone : IsAlone l.number (take l.term-index l.terms);
}
