use Rattle.std.proofs.Common.{sym, refl}
use Rattle.lie_lin.specs.Systems.{has_bit}
use Rattle.lie_report.proofs.Lists.{filter-taken, filter-left}
use Rattle.lie_report.proofs.system_lines.variables_of.Goals.{then-has_bit+in_ok-push, else-has_bit}
use Rattle.lie_report.proofs.system_lines.variables_of.Goals as goal

pub loop-i-preserved : goal.loop-i-preserved
loop-i-preserved c = elim c.if-has_bit.branch [
  | then-has_bit+in_ok-push w ↦ filter-taken (has_bit c.args.unknown.vars) c.loop-i.i c.loop-i.variables.items c.if-has_bit.variables.items (sym w.if-has_bit.ensures) (rw w.variables-is w.in_ok-push.ensures.items) c.loop-i.invariant
  | else-has_bit w ↦ filter-left (has_bit c.args.unknown.vars) c.loop-i.i c.loop-i.variables.items c.if-has_bit.variables.items (sym w.if-has_bit.ensures) (rw w.variables-is refl) c.loop-i.invariant
]
