use Rattle.std.proofs.Common.{◌≡◌, ◌≤◌, drop, map, length}
use Rattle.std.specs.Prelude.{None}
use Rattle.lie_read_report.specs.ReportDrafts.{last_place}
use Rattle.lie_read_report.proofs.places.last_place.Given as goal

abbrev pub decreases-loop-i : goal.decreases-loop-i
decreases-loop-i l = l.i

abbrev pub invariant-loop-i : goal.invariant-loop-i
invariant-loop-i l = record {
  within : l.i ≤ length l.lines;
  none : last_place l.letter (map (λ x. x.now) (drop l.i l.lines)) ≡ None;
}
