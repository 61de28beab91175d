use Rattle.std.proofs.Common.{◌≡◌}
use Rattle.lie_math.specs.Polynomial.{◌*ᴾ◌}
use Rattle.lie_reduce.specs.ReducedTerms.{power}
use Rattle.lie_reduce.proofs.powers.times_power.Given as goal

abbrev pub invariant-loop : goal.invariant-loop
invariant-loop l = l.product ≡ l.fn.poly *ᴾ power l.base l.counter
