use Rattle.std.proofs.Common.{◌≡◌, ◌-◌, ◌≤◌, map, length}
use Rattle.std.specs.List.{AllByRecursion as Every}
use Rattle.lie_print.specs.PrintedTerms.{printed}
use Rattle.lie_readback.proofs.Found.{FoundSoFar}
use Rattle.lie_read_report.specs.FieldTerms.{parts_from}
use Rattle.lie_read_report.specs.WellFormed.{IsReportedPart}
use Rattle.lie_read_report.proofs.fields.parts_in.Given as goal

abbrev pub decreases-loop-i : goal.decreases-loop-i
decreases-loop-i l = l.size - l.i

abbrev pub invariant-loop-i : goal.invariant-loop-i
invariant-loop-i l = record {
  within : l.i ≤ l.size;
  many : length l.parts.items ≡ l.i;
  kept : Every (IsReportedPart l.size) l.parts.items;
  so_far : FoundSoFar (IsReportedPart l.size) (λ P. P.list) (parts_from l.size 0 (map printed l.terms)) l.parts.items (parts_from (l.size - l.i) l.i (map printed l.terms));
}
