-- What was read before, and then one read more.
use Rattle.std.proofs.Common.{◌<◌, length, arith}
use Rattle.std.proofs.lemmas.Result.{err_from_is_err_and}
use Rattle.lie_http.proofs.Steps.{more_fails, more_ends}
use Rattle.lie_http.proofs.reading.read_up_to.Goals as goal

pub returns-in_err-read_more : goal.returns-in_err-read_more
returns-in_err-read_more g c =
    let p = err_from_is_err_and c.from_residual.result c.from_residual.ensures.1 in
    rw (p.1, p.2) (more_fails (g.L.Link.line c.args.link.now) (g.L.Link.line c.loop-alloc.link)
    (g.L.Link.line c.read_more.new.link) c.args.bytes.now.items c.loop-alloc.bytes.items c.read_more.new.bytes.items
    c.args.end c.in_err-read_more.field-0.0 c.loop-alloc.invariant.gathers c.in_err-read_more.ensures)

pub returns-then-not-branch : goal.returns-then-not-branch
returns-then-not-branch g c =
    let short : length c.loop-alloc.bytes.items < c.args.end = omega (arith, c.loop-alloc.bytes.ok.0, c.len.ensures) in
    more_ends (g.L.Link.line c.args.link.now) (g.L.Link.line c.loop-alloc.link)
    (g.L.Link.line c.read_more.new.link) c.args.bytes.now.items c.loop-alloc.bytes.items c.read_more.new.bytes.items
    c.args.end c.loop-alloc.invariant.gathers short (rw c.if-not-branch.true at c.in_ok-read_more.ensures)
