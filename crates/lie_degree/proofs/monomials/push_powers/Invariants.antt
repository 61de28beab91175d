use Rattle.std.specs.Prelude.{◌≡◌, ◌++◌, map}
use Rattle.std.specs.List.{range_with_len}
use Rattle.lie_math.specs.Monomial.{power_of, ◌·◌}
use Rattle.lie_degree.proofs.monomials.push_powers.Given as goal

abbrev pub invariant-loop-exponent : goal.invariant-loop-exponent
invariant-loop-exponent l = l.monos.items ≡ l.fn.monos.items ++ map (λ e. power_of l.var e · l.mono) (range_with_len 0 l.exponent)
