-- What was read, and what was made of it.
use Rattle.std.proofs.Common.{◌∙◌, subst}
use Rattle.lie_serve.specs.Replies.{RepliesCounted, kept}
use Rattle.lie_serve.specs.Serving.{Serves}
use Rattle.lie_serve.proofs.Sending.{asked_serves, fault_serves, serves_open, keeper_told}
use Rattle.lie_serve.proofs.serving.serve_one.Goals as goal

pub returns-in-Ok : goal.returns-in-Ok
returns-in-Ok g c =
    let rows = g.D.Desk.replies c.args.desk.now in
    let replies = RepliesCounted rows in
    let old = kept (g.K.Keeper.held c.args.keeper.now) (g.K.Keeper.fault_count c.args.keeper.now) in
    let new = kept (g.K.Keeper.held c.decide-answer.new.keeper) (g.K.Keeper.fault_count c.decide-answer.new.keeper) in
    let line = g.L.Link.line c.args.link.now in
    let line' = g.L.Link.line c.send.new.link in
    let serves = asked_serves replies old new line (g.L.Link.line c.read_request.new.link) line'
    c.in-Ok.ask c.decide-answer.result c.send.result c.in-Ok.ensures.spent c.in-Ok.ensures.answer
    c.decide-answer.ensures.value c.send.ensures in
    record {
      serves = serves;
      keeper = λ is. keeper_told rows old new line line' (subst
          (Serves replies old new line line') is serves);
      still_open = serves_open replies old new line line' c.send.result serves ∙ c.requires;
    }

pub returns-in-Err : goal.returns-in-Err
returns-in-Err g c =
    let rows = g.D.Desk.replies c.args.desk.now in
    let replies = RepliesCounted rows in
    let old = kept (g.K.Keeper.held c.args.keeper.now) (g.K.Keeper.fault_count c.args.keeper.now) in
    let line = g.L.Link.line c.args.link.now in
    let line' = g.L.Link.line c.refuse.new.link in
    let serves = fault_serves replies old line (g.L.Link.line c.read_request.new.link) line'
    c.in-Err.fault c.refuse.result c.in-Err.ensures.spent c.in-Err.ensures.answer c.refuse.ensures in
    record {
      serves = serves;
      keeper = λ is. keeper_told rows old old line line' (subst
          (Serves replies old old line line') is serves);
      still_open = serves_open replies old old line line' c.refuse.result serves ∙ c.requires;
    }
