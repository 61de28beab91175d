use Rattle.std.proofs.Common.{take}
use Rattle.std.specs.List.{AllByRecursion as Every}
use Rattle.lie_poly.specs.Words.{IsOneOf}
use Rattle.lie_poly.proofs.words.are_of.Given as goal

abbrev pub invariant-loop-var : goal.invariant-loop-var
invariant-loop-var l = Every (λ p. IsOneOf p.0 l.vars) (take l.var-index l.pairs)
