use Rattle.std.proofs.Common.{◌-◌, sym, subst, arith}
use Rattle.std.proofs.lemmas.Result.{err_from_is_err_and}
use Rattle.lie_spans.specs.Bulks.{lowered_in_bulks, lowered_bulks}
use Rattle.lie_spans.specs.Content.{nonzero_row}
use Rattle.lie_spans.specs.KeptRows.{ending_at}
use Rattle.lie_rows.specs.Rows.{rows_of}
use Rattle.lie_rows.proofs.Causes.{cause_of}
use Rattle.lie_rows.proofs.Lowering.{Lowering, lowering_start, lowering_more, lowering_part}
use Rattle.lie_rows.proofs.kept.lowered_row.Goals as goal

pub loop-column-init : goal.loop-column-init
loop-column-init c = record {
  within = omega arith;
  state = subst (Lowering c.args.columns (rows_of c.args.kept.now.rows.items) c.args.row.now c.args.columns) (sym c.in_ok-left.ensures) (lowering_start c.args.columns (rows_of c.args.kept.now.rows.items) c.args.row.now c.requires.kept_rows c.requires.length);
}

pub loop-column-preserved : goal.loop-column-preserved
loop-column-preserved c = record {
  within = omega arith;
  state = lowering_more c.args.columns (rows_of c.args.kept.now.rows.items) c.args.row.now c.requires.kept_rows c.loop-column.column (rows_of c.loop-column.left.items) c.loop-column.invariant.state (omega arith) (rows_of c.in_ok-next.next.items) c.in_ok-next.ensures.items c.in_ok-next.ensures.fits;
}

pub returns-in_err-next-clause-cause : goal.returns-in_err-next-clause-cause
returns-in_err-next-clause-cause c =
    let p = err_from_is_err_and c.from_residual-in_err-next.result c.from_residual-in_err-next.ensures.1 in
    rw (p.1, p.2) (cause_of c.in_err-next.field-0.0 (lowered_in_bulks (c.loop-column.column - 1) (rows_of c.loop-column.left.items) (ending_at (c.loop-column.column - 1) (rows_of c.args.kept.now.rows.items))) (lowered_bulks c.args.columns (rows_of c.args.kept.now.rows.items) (nonzero_row c.args.row.now))
    (lowering_part c.args.columns (rows_of c.args.kept.now.rows.items) c.args.row.now c.requires.kept_rows c.loop-column.column (rows_of c.loop-column.left.items) c.loop-column.invariant.state (omega arith)) c.in_err-next.ensures.cause)
