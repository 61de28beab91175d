use Rattle.std.proofs.Common.{map}
use Rattle.std.specs.List.{AllByRecursion as Every}
use Rattle.lie_readback.specs.DraftViews.{terms_seen}
use Rattle.lie_readback.specs.Groups.{written_terms}
use Rattle.lie_readback.specs.WellFormed.{IsReportedForm}
use Rattle.lie_readback.proofs.Found.{FoundSoFar}
use Rattle.lie_readback.proofs.forms.forms_of.Given as goal

abbrev pub invariant-loop-terms : goal.invariant-loop-terms
invariant-loop-terms l = record {
  so_far : FoundSoFar IsReportedForm written_terms (map terms_seen l.fn.drafts.items) l.forms.items (map terms_seen l.terms-iterator.rest.items);
  kept : Every IsReportedForm l.forms.items;
}
