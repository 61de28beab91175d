use Rattle.std.proofs.Common.{◌≡◌, ◌<◌, take}
use Rattle.std.specs.List.{AllByRecursion as Every}
use Rattle.lie_steps.specs.Absent.{Power, low_powers}
use Rattle.lie_rules.proofs.absent.low_powers.Given as goal

abbrev pub invariant-loop-var : goal.invariant-loop-var
invariant-loop-var l = record {
  powers : l.powers.items ≡ low_powers (take l.var l.der.counts);
  within : Every (λ (c : Power). c.0 < 8) l.powers.items;
}
