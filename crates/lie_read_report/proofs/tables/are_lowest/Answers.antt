use Rattle.std.proofs.Common.{subst, arith}
use Rattle.std.specs.List.{AllByRecursion as Every}
use Rattle.lie_math.proofs.EveryElement.{every_picked}
use Rattle.lie_ring.proofs.Fronts.{all_taken}
use Rattle.lie_read_report.specs.WellFormed.{IsReportedRatio}
use Rattle.lie_read_report.proofs.LowPolynomials.{every_copied}
use Rattle.lie_read_report.proofs.tables.are_lowest.Goals as goal

pub returns-then-not-is_lowest : goal.returns-then-not-is_lowest
returns-then-not-is_lowest c = λ h. c.if-not-is_lowest.ensures (every_picked IsReportedRatio c.args.ratios.now c.loop-ratio.ratio-index _ c.loop-ratio-test.true h).0

pub loop-ratio-preserved : goal.loop-ratio-preserved
loop-ratio-preserved c = every_copied IsReportedRatio c.args.ratios.now c.loop-ratio.ratio-index _ c.loop-ratio-test.true c.loop-ratio.invariant c.if-not-is_lowest.ensures

pub returns : goal.returns
returns c = subst (Every IsReportedRatio) (all_taken c.args.ratios.now c.loop-ratio.ratio-index (omega (arith, c.loop-ratio-test.false))) c.loop-ratio.invariant
