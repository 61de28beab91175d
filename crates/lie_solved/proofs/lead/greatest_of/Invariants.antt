use Rattle.std.proofs.Common.{take}
use Rattle.lie_solved.specs.Equations.{IsBest, variables_of}
use Rattle.lie_solved.proofs.lead.greatest_of.Given as goal

abbrev pub invariant-loop-term : goal.invariant-loop-term
invariant-loop-term l = IsBest l.space (variables_of (take l.term-index l.terms)) l.best
