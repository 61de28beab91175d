use Rattle.std.proofs.Common.{arith}
use Rattle.lie_spans.specs.Bulks.{difference_bulks}
use Rattle.lie_rows.proofs.Causes.{work_past}
use Rattle.lie_rows.proofs.RowLoops.{differing_past}
use Rattle.lie_rows.proofs.row.difference_of.Goals as goal

pub returns-in-None-clause-cause : goal.returns-in-None-clause-cause
returns-in-None-clause-cause c =
    work_past (difference_bulks c.args.a c.args.b c.args.row.now c.args.other.now)
    (differing_past c.args.a c.args.b c.args.row.now c.args.other.now c.loop-i.out.items c.loop-i.i c.index-row-i.result c.index-other-i.result c.loop-i.invariant (omega arith) (omega (arith, c.requires)) c.index-row-i.is c.index-other-i.is c.in-None.ensures)
