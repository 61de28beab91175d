use Rattle.std.proofs.Common.{◌∙◌}
use Rattle.lie_algebra.proofs.UnknownRows.{number_read, number_missing}
use Rattle.lie_algebra.proofs.rows.number_at.Goals as goal

pub returns-in-Ok : goal.returns-in-Ok
returns-in-Ok c =
    let p = rw c.in-Ok.is at c.place_in.ensures in
    number_read c.args.mono.now c.args.list.now c.in-Ok.place _ c.requires p.0 p.1

pub returns-in-Err : goal.returns-in-Err
returns-in-Err c = c.zero.ensures ∙ number_missing c.args.mono.now c.args.list.now _ (rw c.in-Err.is at c.place_in.ensures)
