-- What was read before, and then one look.
use Rattle.std.proofs.lemmas.Result.{err_from_is_err_and}
use Rattle.lie_http.proofs.Steps.{head_fails}
use Rattle.lie_http.proofs.reading.read_head.Goals as goal

pub returns-in_err-found : goal.returns-in_err-found
returns-in_err-found g c =
    let p = err_from_is_err_and c.from_residual.result c.from_residual.ensures.1 in
    rw (p.1, p.2) (head_fails (g.L.Link.line c.args.link.now) (g.L.Link.line c.reading.link)
    (g.L.Link.line c.look.new.link) c.reading.bytes.items c.look.new.bytes.items
    c.in_err-found.field-0.0 c.reading.invariant.takes c.in_err-found.ensures)
