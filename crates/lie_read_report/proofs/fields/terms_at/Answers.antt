use Rattle.lie_read_report.proofs.Reported.{at_more, at_done}
use Rattle.lie_read_report.proofs.fields.terms_at.Goals as goal

pub loop-term-preserved : goal.loop-term-preserved
loop-term-preserved c = at_more c.args.place c.args.terms.now c.loop-term.term-index c.term-item.result c.loop-term.list.items c.push_at.new.list.items _ c.loop-term-test.true c.term-item.is c.in_ok-push_at.ensures c.loop-term.invariant

pub returns : goal.returns
returns c = at_done c.args.place c.args.terms.now c.loop-term.term-index c.loop-term.list.items _ c.loop-term-test.false c.loop-term.invariant
