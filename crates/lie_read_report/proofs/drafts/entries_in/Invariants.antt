use Rattle.std.proofs.Common.{◌≡◌, ◌-◌, drop, map, length, []}
use Rattle.lie_readback.specs.Readings.{read_each}
use Rattle.lie_report.specs.Reports.{entry_of}
use Rattle.lie_read_report.specs.Combinations.{read_entry}
use Rattle.lie_read_report.proofs.drafts.entries_in.Given as goal

abbrev pub decreases-loop-i : goal.decreases-loop-i
decreases-loop-i l = length l.lines - l.i

abbrev pub invariant-loop-i : goal.invariant-loop-i
invariant-loop-i l = read_each (read_entry l.count) [] (map (λ x. x.now) l.lines) ≡ read_each (read_entry l.count) (map entry_of l.entries.items) (map (λ x. x.now) (drop l.i l.lines))
