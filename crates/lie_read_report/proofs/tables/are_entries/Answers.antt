use Rattle.std.proofs.Common.{subst, arith}
use Rattle.std.specs.Global.{Vec}
use Rattle.std.specs.List.{AllByRecursion as Every}
use Rattle.lie_math.proofs.EveryElement.{every_at, every-map}
use Rattle.lie_ring.proofs.Fronts.{all_taken}
use Rattle.lie_ring.specs.declared.ratio.Ratio.{Ratio}
use Rattle.lie_report.specs.Reports.{entry_of}
use Rattle.lie_read_report.specs.WellFormed.{IsReportedEntry}
use Rattle.lie_read_report.proofs.LowPolynomials.{every_taken}
use Rattle.lie_read_report.proofs.Reported.{every_unmapped}
use Rattle.lie_read_report.proofs.tables.are_entries.Goals as goal

pub returns-then-not-is_entry : goal.returns-then-not-is_entry
returns-then-not-is_entry c = λ h.
    (rw c.as_slice.ensures.value at c.if-not-is_entry.ensures) (every_at (λ (e : Vec Ratio). IsReportedEntry c.args.count (entry_of e)) c.args.entries.now c.loop-entry.entry-index c.entry-item.result c.loop-entry-test.true c.entry-item.is
    (every_unmapped (IsReportedEntry c.args.count) entry_of c.args.entries.now h))

pub loop-entry-preserved : goal.loop-entry-preserved
loop-entry-preserved c =
    every_taken (λ (e : Vec Ratio). IsReportedEntry c.args.count (entry_of e)) c.args.entries.now c.loop-entry.entry-index c.entry-item.result c.loop-entry-test.true c.entry-item.is c.loop-entry.invariant
    (rw c.as_slice.ensures.value at c.if-not-is_entry.ensures)

pub returns : goal.returns
returns c =
    every-map (IsReportedEntry c.args.count) entry_of c.args.entries.now
    (subst (Every (λ (e : Vec Ratio). IsReportedEntry c.args.count (entry_of e))) (all_taken c.args.entries.now c.loop-entry.entry-index (omega (arith, c.loop-entry-test.false))) c.loop-entry.invariant)
