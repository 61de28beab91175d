use Rattle.std.proofs.Common.{◌≡◌, ◌-◌, take}
use Rattle.lie_math.specs.Monomial.{exponent}
use Rattle.lie_lin.proofs.PowerLists.{changed}
use Rattle.lie_lin.proofs.factors.without_factor.Given as goal

abbrev pub invariant-loop-pair : goal.invariant-loop-pair
invariant-loop-pair l = l.pairs.items ≡ changed (λ v e. e - exponent l.factor v) (take l.pair-index l.pair-items)
