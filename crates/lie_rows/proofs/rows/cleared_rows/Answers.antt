use Rattle.std.proofs.Common.{ap, arith}
use Rattle.std.proofs.lemmas.Result.{err_from_is_err_and}
use Rattle.lie_spans.specs.Bulks.{elimination_bulks, clearing_bulks}
use Rattle.lie_rows.specs.Rows.{rows_of}
use Rattle.lie_rows.proofs.Causes.{cause_of}
use Rattle.lie_rows.proofs.Clearing.{Clearing, clearing_start, clearing_length, clearing_part, clearing_more, clearing_end}
use Rattle.lie_rows.proofs.RowLists.{rows_none}
use Rattle.lie_rows.proofs.rows.cleared_rows.Goals as goal

pub loop-row-init : goal.loop-row-init
loop-row-init c =
    let i = ap rows_of c.into_iter-row-iterator.ensures.into_iter_gives.0 in
    rw (i, c.new-out.ensures.items) (clearing_start c.args.pivot.now c.args.column (rows_of c.args.rows.items) c.requires.lengths)

pub push_cleared_row-requires-clause-lengths : goal.push_cleared_row-requires-clause-lengths
push_cleared_row-requires-clause-lengths c =
    clearing_length c.args.pivot.now c.args.column (rows_of c.args.rows.items) (rows_of c.loop-row.row-iterator.rest.items) (rows_of c.loop-row.out.items) c.loop-row.invariant c.in-Some.row.items (rows_of c.next.new.self.rest.items) (ap rows_of c.in-Some.ensures.steps.0)

pub loop-row-preserved : goal.loop-row-preserved
loop-row-preserved c =
    clearing_more c.args.pivot.now c.args.column (rows_of c.args.rows.items) (rows_of c.loop-row.row-iterator.rest.items) (rows_of c.loop-row.out.items) c.loop-row.invariant c.in-Some.row.items (rows_of c.next.new.self.rest.items) (ap rows_of c.in-Some.ensures.steps.0)
    (rows_of c.push_cleared_row.new.out.items) c.in_ok-push_cleared_row.ensures.items c.in_ok-push_cleared_row.ensures.fits

pub returns-in_err-push_cleared_row-clause-cause : goal.returns-in_err-push_cleared_row-clause-cause
returns-in_err-push_cleared_row-clause-cause c =
    let p = err_from_is_err_and c.from_residual.result c.from_residual.ensures.1 in
    rw (p.1, p.2) (cause_of c.in_err-push_cleared_row.field-0.0 (elimination_bulks c.args.pivot.now c.args.column c.in-Some.row.items) (clearing_bulks c.args.pivot.now c.args.column (rows_of c.args.rows.items))
    (clearing_part c.args.pivot.now c.args.column (rows_of c.args.rows.items) (rows_of c.loop-row.row-iterator.rest.items) (rows_of c.loop-row.out.items) c.loop-row.invariant c.in-Some.row.items (rows_of c.next.new.self.rest.items) (ap rows_of c.in-Some.ensures.steps.0))
    c.in_err-push_cleared_row.ensures.cause)

pub returns-clause-items : goal.returns-clause-items
returns-clause-items c =
    let o = c.loop-row.row-iterator.rest.ok in
    (clearing_end c.args.pivot.now c.args.column (rows_of c.args.rows.items) (rows_of c.loop-row.row-iterator.rest.items) (rows_of c.loop-row.out.items) c.loop-row.invariant (rows_none c.loop-row.row-iterator.rest.items (omega (arith, o, c.in-None.ensures.steps.0)))).0

pub returns-clause-fits : goal.returns-clause-fits
returns-clause-fits c =
    let o = c.loop-row.row-iterator.rest.ok in
    (clearing_end c.args.pivot.now c.args.column (rows_of c.args.rows.items) (rows_of c.loop-row.row-iterator.rest.items) (rows_of c.loop-row.out.items) c.loop-row.invariant (rows_none c.loop-row.row-iterator.rest.items (omega (arith, o, c.in-None.ensures.steps.0)))).1
