use Rattle.std.proofs.Common.{map}
use Rattle.std.specs.List.{AllByRecursion as Every}
use Rattle.lie_readback.specs.DraftViews.{terms_seen}
use Rattle.lie_readback.proofs.Found.{FoundSoFar}
use Rattle.lie_read_report.specs.FieldTerms.{written_field}
use Rattle.lie_read_report.specs.WellFormed.{IsReportedField}
use Rattle.lie_read_report.proofs.fields.fields_of.Given as goal

abbrev pub invariant-loop-terms : goal.invariant-loop-terms
invariant-loop-terms l = record {
  so_far : FoundSoFar (IsReportedField l.size) written_field (map terms_seen l.fn.drafts.items) l.fields.items (map terms_seen l.terms-iterator.rest.items);
  kept : Every (IsReportedField l.size) l.fields.items;
}
