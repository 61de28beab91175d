use Rattle.std.proofs.Common.{◌≡◌, ◌++◌}
use Rattle.lie_steps.specs.Absent.{powers_from}
use Rattle.lie_rules.proofs.fresh.push_powers.Given as goal

abbrev pub invariant-loop-exponent : goal.invariant-loop-exponent
invariant-loop-exponent l = l.powers.items ≡ l.fn.powers.items ++ powers_from l.var 0 l.exponent
