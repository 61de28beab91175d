use Rattle.std.proofs.Common.{◌≡◌, ◌≤◌, ◌+◌, ◌++◌, drop, map}
use Rattle.lie_report.specs.Reports.{entry_of}
use Rattle.lie_report.specs.SystemLines.{lines_text}
use Rattle.lie_report.specs.BasisLines.{commutator_lines_from}
use Rattle.lie_report.proofs.basis_lines.push_entries.Given as goal

abbrev pub invariant-loop-i : goal.invariant-loop-i
invariant-loop-i l = record {
  printed : l.text.items ++ lines_text (commutator_lines_from l.count (l.pair.first, l.pair.second) (map entry_of (drop l.i l.entries)))
      ≡ l.fn.text.items ++ lines_text (commutator_lines_from l.count (1, 2) (map entry_of l.entries));
  small : l.pair.first ≤ l.i + 1;
}
