-- Where the link does not listen, no connection is served.
use Rattle.std.specs.Prelude.{⊤, Err}
use Rattle.lie_serve.specs.Replies.{kept}
use Rattle.lie_service.proofs.Entries.{leaves_entries, entries_from}
use Rattle.lie_service.proofs.Many.{not_listening}
use Rattle.lie_service.proofs.serving.serve.Goals as goal

pub returns-in-Err-clause-serves : goal.returns-in-Err-clause-serves
returns-in-Err-clause-serves g c = not_listening c.args.budget c.args.count _ _ _ c.in-Err.fail c.in-Err.ensures

pub returns-in-Err-clause-entries : goal.returns-in-Err-clause-entries
returns-in-Err-clause-entries g c =
    let old = kept (g.K.Keeper.held c.args.keeper.now) (g.K.Keeper.fault_count c.args.keeper.now) in
    let line = g.L.Link.line c.args.link.now in
    let line' = g.L.Link.line c.listen.new.self in
    leaves_entries {T = ⊤} c.args.budget c.args.count old old line line' (Err c.in-Err.fail)
    (not_listening c.args.budget c.args.count old line line' c.in-Err.fail c.in-Err.ensures)

pub returns-in-Ok-clause-entries : goal.returns-in-Ok-clause-entries
returns-in-Ok-clause-entries g c = entries_from c.args.budget c.args.count _ _ _ _ _ _ c.in-Ok.ensures c.serve_each.ensures.serves
