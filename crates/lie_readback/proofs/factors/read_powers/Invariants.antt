use Rattle.std.proofs.Common.{◌≡◌, ◌-◌, drop, map, length, []}
use Rattle.lie_readback.specs.Readings.{read_each}
use Rattle.lie_readback.specs.Factors.{read_power}
use Rattle.lie_readback.proofs.factors.read_powers.Given as goal

abbrev pub decreases-loop-i : goal.decreases-loop-i
decreases-loop-i l = length l.factors - l.i

abbrev pub invariant-loop-i : goal.invariant-loop-i
invariant-loop-i l = read_each (read_power l.names) [] (map (λ x. x.now) l.factors) ≡ read_each (read_power l.names) l.powers.items (map (λ x. x.now) (drop l.i l.factors))
