use Rattle.std.proofs.Common.{take}
use Rattle.lie_lin.specs.Validity.{AreLow}
use Rattle.lie_read_report.proofs.fields.is_monomial_below.Given as goal

abbrev pub invariant-loop-pair : goal.invariant-loop-pair
invariant-loop-pair l = AreLow l.bound (take l.pair-index l.pair-items)
