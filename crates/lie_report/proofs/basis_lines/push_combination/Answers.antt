use Rattle.std.proofs.Common.{◌+◌}
use Rattle.lie_report.proofs.PairSteps.{multiples-step, multiples-done}
use Rattle.lie_report.proofs.basis_lines.push_combination.Goals as goal

pub loop-i-preserved : goal.loop-i-preserved
loop-i-preserved c =
    multiples-step c.args.ratios.now (c.loop-i.i + 1) c.loop-i.i _ c.loop-i.further _ c.loop-i.text.items c.push_nonzero.new.text.items _ c.loop-i-test.true c.in_ok-more.ensures c.loop-i.invariant

pub returns : goal.returns
returns c = multiples-done c.loop-i.further c.args.ratios.now (c.loop-i.i + 1) c.loop-i.i c.loop-i.text.items _ _ c.loop-i-test.false c.in_ok-push_unless_further.ensures c.loop-i.invariant
