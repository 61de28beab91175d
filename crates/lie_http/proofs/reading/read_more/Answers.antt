-- A read of nothing is the end of the input.
use Rattle.lie_http.proofs.Steps.{reads_nothing}
use Rattle.lie_http.proofs.reading.read_more.Goals as goal

pub returns-then-count-eq0 : goal.returns-then-count-eq0
returns-then-count-eq0 g c = reads_nothing (g.L.Link.line c.args.link.now)
    (g.L.Link.line c.read.new.self) c.args.bytes.now.items _ c.in-Ok.count c.if-count-eq0.true c.in-Ok.ensures
