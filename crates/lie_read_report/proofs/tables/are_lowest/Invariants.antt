use Rattle.std.proofs.Common.{take}
use Rattle.std.specs.List.{AllByRecursion as Every}
use Rattle.lie_read_report.specs.WellFormed.{IsReportedRatio}
use Rattle.lie_read_report.proofs.tables.are_lowest.Given as goal

abbrev pub invariant-loop-ratio : goal.invariant-loop-ratio
invariant-loop-ratio l = Every IsReportedRatio (take l.ratio-index l.ratios)
