use Rattle.std.proofs.Common.{◌≡◌, take}
use Rattle.lie_reduce.specs.Reductions.{greatest_exponent}
use Rattle.lie_reduce.specs.ReducedTerms.{exponents_at}
use Rattle.lie_reduce.proofs.exponents.greatest_exponents.Given as goal

abbrev pub invariant-loop-rule : goal.invariant-loop-rule
invariant-loop-rule l = l.made.items ≡ exponents_at l.space (take l.rule-index l.rules) (greatest_exponent l.polynomials)
