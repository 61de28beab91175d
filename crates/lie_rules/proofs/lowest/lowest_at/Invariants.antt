use Rattle.std.proofs.Common.{take}
use Rattle.std.specs.List.{AllByRecursion as Every}
use Rattle.lie_jet.specs.Derivatives.{derivative_of}
use Rattle.lie_rules.specs.LowestTerms.{IsConstantOver}
use Rattle.lie_rules.proofs.lowest.lowest_at.Given as goal

abbrev pub invariant-loop-term : goal.invariant-loop-term
invariant-loop-term l = Every (IsConstantOver (derivative_of l.last)) (take l.term-index l.terms)
