-- No connection is served where there is no memory for the line, and a service that fails has failed to open once.
use Rattle.std.proofs.Common.{arith}
use Rattle.lie_serve.specs.Replies.{kept}
use Rattle.lie_service.specs.Serving.{none}
use Rattle.lie_service.proofs.OpenFaults.{failed_once}
use Rattle.lie_app.proofs.on_link.on_link.Goals as goal

pub returns-in_default-clause-link : goal.returns-in_default-clause-link
returns-in_default-clause-link g c = (0, omega arith, none)

pub returns-in-Err-Failed-clause-link_fault : goal.returns-in-Err-Failed-clause-link_fault
returns-in-Err-Failed-clause-link_fault g c = λ e.
    failed_once c.args.budget c.args.count (kept (g.K.Keeper.held c.args.keeper.now) (g.K.Keeper.fault_count c.args.keeper.now))
    (kept (g.K.Keeper.held c.serve.new.keeper) (g.K.Keeper.fault_count c.serve.new.keeper)) (g.L.Link.line c.args.link.now)
    (g.L.Link.line c.serve.new.link) (rw c.in-Err-Failed.field-0-is at c.in-Err-Failed.ensures.serves)
