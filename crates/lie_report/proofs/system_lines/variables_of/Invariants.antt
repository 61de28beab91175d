use Rattle.std.proofs.Common.{◌≡◌}
use Rattle.std.specs.Prelude.{filter}
use Rattle.std.specs.List.{range_with_len}
use Rattle.lie_lin.specs.Systems.{has_bit}
use Rattle.lie_report.proofs.system_lines.variables_of.Given as goal

abbrev pub invariant-loop-i : goal.invariant-loop-i
invariant-loop-i l = l.variables.items ≡ filter (has_bit l.unknown.vars) (range_with_len 0 l.i)
