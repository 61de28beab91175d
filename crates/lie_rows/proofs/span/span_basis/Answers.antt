use Rattle.std.proofs.Common.{◌+◌, ap, sym, subst, subst₂, arith, List}
use Rattle.std.proofs.lemmas.Result.{err_from_is_err_and}
use Rattle.lie_spans.specs.Bulks.{column_bulks, basis_bulks}
use Rattle.lie_spans.specs.Elimination.{first_with}
use Rattle.lie_spans.specs.Rows.{Row, entry, IsReducedBasis}
use Rattle.lie_spans.specs.Spans.{IsSpanned}
use Rattle.lie_rows.specs.Rows.{rows_of}
use Rattle.lie_rows.proofs.Causes.{cause_of, work_within}
use Rattle.lie_rows.proofs.Eliminating.{Eliminating, eliminating_start, eliminating_more, eliminating_part, eliminating_end}
use Rattle.lie_rows.proofs.span.span_basis.Goals as goal

pub loop-column-init : goal.loop-column-init
loop-column-init c =
    subst₂ (λ ps rs. Eliminating c.args.columns (rows_of c.args.rows.now) 0 (rows_of ps) rs) (sym c.new-pivots.ensures.items) (sym c.in_ok-others.ensures) (eliminating_start c.args.columns (rows_of c.args.rows.now) c.requires)

pub loop-column-preserved : goal.loop-column-preserved
loop-column-preserved c =
    subst₂ (λ ps rs. Eliminating c.args.columns (rows_of c.args.rows.now) (c.loop-column.column + 1) ps rs)
    (sym (ap (λ (q : List Row × List Row). q.0) c.in_ok-next.ensures.items)) (sym (ap (λ (q : List Row × List Row). q.1) c.in_ok-next.ensures.items))
    (eliminating_more c.args.columns (rows_of c.args.rows.now) c.loop-column.column (rows_of c.loop-column.left.pivots.items) (rows_of c.loop-column.left.others.items) c.loop-column.invariant (omega arith) c.in_ok-next.ensures.fits)

pub returns-in_err-next-clause-cause : goal.returns-in_err-next-clause-cause
returns-in_err-next-clause-cause c =
    let p = err_from_is_err_and c.from_residual-in_err-next.result c.from_residual-in_err-next.ensures.1 in
    rw (p.1, p.2) (cause_of c.in_err-next.field-0.0 (column_bulks c.loop-column.column (rows_of c.loop-column.left.pivots.items) (first_with c.loop-column.column (rows_of c.loop-column.left.others.items))) (basis_bulks c.args.columns (rows_of c.args.rows.now))
    (eliminating_part c.args.columns (rows_of c.args.rows.now) c.loop-column.column (rows_of c.loop-column.left.pivots.items) (rows_of c.loop-column.left.others.items) c.loop-column.invariant (omega arith)) c.in_err-next.ensures.cause)

pub returns-clause-basis : goal.returns-clause-basis
returns-clause-basis c =
    subst (IsReducedBasis c.args.columns (λ w. IsSpanned entry (rows_of c.args.rows.now) (entry w))) (sym c.in_ok-basis.ensures)
    (eliminating_end c.args.columns (rows_of c.args.rows.now) c.loop-column.column (rows_of c.loop-column.left.pivots.items) (rows_of c.loop-column.left.others.items) c.loop-column.invariant (omega arith) c.requires).0

pub returns-clause-fits : goal.returns-clause-fits
returns-clause-fits c = work_within (basis_bulks c.args.columns (rows_of c.args.rows.now)) (eliminating_end c.args.columns (rows_of c.args.rows.now) c.loop-column.column (rows_of c.loop-column.left.pivots.items) (rows_of c.loop-column.left.others.items) c.loop-column.invariant (omega arith) c.requires).1
