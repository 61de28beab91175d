use Rattle.std.proofs.Common.{subst, map, []}
use Rattle.std.specs.Global.{Vec}
use Rattle.lie_print.specs.declared.printed_term.Term.{Term}
use Rattle.lie_readback.specs.Readings.{Reads, read_each}
use Rattle.lie_readback.specs.DraftViews.{terms_seen}
use Rattle.lie_read_report.specs.ReportDrafts.{read_field}
use Rattle.lie_read_report.proofs.DraftLines.{front_lines}
use Rattle.lie_read_report.proofs.drafts.read_fields.Goals as goal

pub returns : goal.returns
returns c =
    subst (λ ls. Reads (λ (Es : Vec (Vec Term)). map terms_seen Es.items) c.fields_in.result (read_each (read_field c.args.names.now) [] ls))
    (front_lines c.args.lines.now c.saturating_sub.result 2 c.saturating_sub.ensures) c.fields_in.ensures
