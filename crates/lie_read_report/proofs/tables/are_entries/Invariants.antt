use Rattle.std.proofs.Common.{take}
use Rattle.std.specs.List.{AllByRecursion as Every}
use Rattle.lie_report.specs.Reports.{entry_of}
use Rattle.lie_read_report.specs.WellFormed.{IsReportedEntry}
use Rattle.lie_read_report.proofs.tables.are_entries.Given as goal

abbrev pub invariant-loop-entry : goal.invariant-loop-entry
invariant-loop-entry l = Every (λ e. IsReportedEntry l.count (entry_of e)) (take l.entry-index l.entries)
