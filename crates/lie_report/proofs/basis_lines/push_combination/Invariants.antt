use Rattle.std.proofs.Common.{◌≡◌, ◌+◌, ◌++◌, drop, false}
use Rattle.lie_report.specs.BasisLines.{multiples_from}
use Rattle.lie_report.proofs.basis_lines.push_combination.Given as goal

abbrev pub invariant-loop-i : goal.invariant-loop-i
invariant-loop-i l = l.text.items ++ multiples_from l.further (l.i + 1) (drop l.i l.ratios) ≡ l.fn.text.items ++ multiples_from false 1 l.ratios
