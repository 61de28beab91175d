use Rattle.std.proofs.Common.{◌≡◌, ◌≤◌, ◌<◌, ◌+◌, map, take}
use Rattle.lie_lin.specs.Systems.{unknown_of}
use Rattle.lie_steps.specs.Absent.{fresh_unknowns}
use Rattle.lie_rules.proofs.fresh.fresh_unknowns.Given as goal

abbrev pub invariant-loop-power : goal.invariant-loop-power
invariant-loop-power l = record {
  unknowns : map unknown_of l.fresh.items ≡ fresh_unknowns l.fn.next (unknown_of l.unknown) (take l.power-index l.powers);
  number : l.number ≡ l.fn.next + l.power-index;
  within : 0 < l.power-index → l.fn.next + l.power-index ≤ 65536;
}
