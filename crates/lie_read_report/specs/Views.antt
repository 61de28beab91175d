-- Drafts of reports that values of the program are.
use Rattle.std.specs.Prelude.{List, map, option_map}
use Rattle.std.specs.Global.{Vec}
use Rattle.lie_ring.specs.declared.ratio.Ratio.{Ratio}
use Rattle.lie_readback.specs.DraftViews.{terms_seen, named_seen, draft_seen}
use Rattle.lie_read_report.specs.declared.drafts.Basis as kept_basis
use Rattle.lie_read_report.specs.declared.drafts.Written as kept
use Rattle.lie_read_report.specs.declared.drafts.Written.TheVariants.{Determining, Symmetries, Degree}
use Rattle.lie_read_report.specs.ReportDrafts.{BasisDraft, ReportDraft, determining, symmetries, degree}
use Rattle.lie_report.specs.Reports.{entry_of}

abbrev pub basis_seen : kept_basis.Basis → BasisDraft
basis_seen b = record { fields = map terms_seen b.fields.items; table = map entry_of b.table.items }

abbrev pub written_seen : kept.Written → ReportDraft
written_seen (Determining d) = determining (draft_seen d)
written_seen (Symmetries d found) = symmetries (draft_seen d) (option_map basis_seen found)
written_seen (Degree names most fields) = degree (named_seen names) most (map terms_seen fields.items)
