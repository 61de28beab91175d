use Rattle.std.proofs.Common.{◌≡◌, take}
use Rattle.lie_math.specs.Limits.{absolutes}
use Rattle.lie_jet.proofs.absolute_values.absolute_polynomial.Given as goal

abbrev pub invariant-loop-term : goal.invariant-loop-term
invariant-loop-term l = l.absolutes.items ≡ take l.term-index (absolutes l.term-items)
