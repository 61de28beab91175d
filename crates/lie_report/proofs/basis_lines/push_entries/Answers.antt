use Rattle.std.proofs.Common.{ap, ◌∙◌, ◌++◌, arith}
use Rattle.lie_report.specs.SystemLines.{ended}
use Rattle.lie_report.specs.BasisLines.{commutator_line}
use Rattle.lie_report.specs.Reports.{entry_of}
use Rattle.lie_report.proofs.PairSteps.{commutators-put, commutators-done, next_first}
use Rattle.lie_report.proofs.basis_lines.push_entries.Goals as goal

pub loop-i-preserved : goal.loop-i-preserved
loop-i-preserved c = record {
  printed =
      commutators-put c.args.count (c.loop-i.pair.first, c.loop-i.pair.second) (c.next_pair-pair.result.first, c.next_pair-pair.result.second) entry_of c.args.entries.now c.loop-i.i c.index-entries-i.result
      c.loop-i.text.items c.push_commutator.new.text.items _ c.loop-i-test.true c.next_pair-pair.ensures
      (c.in_ok-push_commutator.ensures ∙ ap (λ rs. c.loop-i.text.items ++ ended (commutator_line (c.loop-i.pair.first, c.loop-i.pair.second) rs)) (c.as_slice.ensures.value ∙ ap entry_of c.index-entries-i.is))
      c.loop-i.invariant.printed;
  small =
      let h = next_first c.args.count (c.loop-i.pair.first, c.loop-i.pair.second) (c.next_pair-pair.result.first, c.next_pair-pair.result.second) c.next_pair-pair.ensures in
      let k = c.loop-i.invariant.small in omega arith;
}

pub returns : goal.returns
returns c =
    commutators-done c.args.count (c.loop-i.pair.first, c.loop-i.pair.second) entry_of c.args.entries.now c.loop-i.i c.loop-i.text.items _ c.loop-i-test.false c.loop-i.invariant.printed
