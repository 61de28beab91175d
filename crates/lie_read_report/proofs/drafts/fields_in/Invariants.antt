use Rattle.std.proofs.Common.{◌≡◌, ◌-◌, drop, map, length, []}
use Rattle.lie_readback.specs.Readings.{read_each}
use Rattle.lie_readback.specs.DraftViews.{terms_seen}
use Rattle.lie_read_report.specs.ReportDrafts.{read_field}
use Rattle.lie_read_report.proofs.drafts.fields_in.Given as goal

abbrev pub decreases-loop-i : goal.decreases-loop-i
decreases-loop-i l = length l.lines - l.i

abbrev pub invariant-loop-i : goal.invariant-loop-i
invariant-loop-i l = read_each (read_field l.names) [] (map (λ x. x.now) l.lines) ≡ read_each (read_field l.names) (map terms_seen l.fields.items) (map (λ x. x.now) (drop l.i l.lines))
