use Rattle.std.proofs.Common.{◌≡◌, filter, take}
use Rattle.lie_rules.proofs.VariableLeft.{other}
use Rattle.lie_rules.proofs.powers.without_variable.Given as goal

abbrev pub invariant-loop-pair : goal.invariant-loop-pair
invariant-loop-pair l = l.pairs.items ≡ filter (other l.var) (take l.pair-index l.pair-items)
