use Rattle.std.proofs.Common.{[], sym, subst, arith}
use Rattle.std.proofs.lemmas.Result.{err_from_is_err_and}
use Rattle.lie_spans.specs.Bulks.{kept_bulks, solution_bulks, kernel_bulks}
use Rattle.lie_spans.specs.KeptRows.{AreKept, ending_at}
use Rattle.lie_rows.specs.Rows.{rows_of}
use Rattle.lie_rows.proofs.Causes.{cause_of, work_within}
use Rattle.lie_rows.proofs.Solving.{Solved, kept_is_kept, kernel_done, kernel_part_kept, kernel_part_solutions, solved_end, solved_more, solved_part, solved_start}
use Rattle.lie_rows.proofs.kernel.kernel_basis.Goals as goal

pub returns-in_err-kept-clause-cause : goal.returns-in_err-kept-clause-cause
returns-in_err-kept-clause-cause c =
    let p = err_from_is_err_and c.from_residual.result c.from_residual.ensures.1 in
    rw (p.1, p.2) (cause_of c.in_err-kept.field-0.0 (kept_bulks c.args.columns [] (rows_of c.args.rows.now)) (kernel_bulks c.args.columns (rows_of c.args.rows.now)) (kernel_part_kept c.args.columns (rows_of c.args.rows.now)) c.in_err-kept.ensures.cause)

pub loop-column-init : goal.loop-column-init
loop-column-init c = subst (λ out. Solved c.args.columns (rows_of c.in_ok-kept.kept.rows.items) 0 (rows_of out)) (sym c.new-out.ensures.items) (solved_start c.args.columns (rows_of c.in_ok-kept.kept.rows.items))

pub push_solution-requires-clause-kept_rows : goal.push_solution-requires-clause-kept_rows
push_solution-requires-clause-kept_rows c = subst (AreKept c.args.columns) (sym c.in_ok-kept.ensures.items) (kept_is_kept c.args.columns (rows_of c.args.rows.now) c.requires)

pub returns-in_err-push_solution-clause-cause : goal.returns-in_err-push_solution-clause-cause
returns-in_err-push_solution-clause-cause c =
    let p = err_from_is_err_and c.from_residual-in_err-push_solution.result c.from_residual-in_err-push_solution.ensures.1 in
    rw (p.1, p.2) (cause_of c.in_err-push_solution.field-0.0 (solution_bulks c.args.columns (rows_of c.in_ok-kept.kept.rows.items) c.loop-column.column (ending_at c.loop-column.column (rows_of c.in_ok-kept.kept.rows.items))) (kernel_bulks c.args.columns (rows_of c.args.rows.now))
    (λ w. solved_part c.args.columns (rows_of c.in_ok-kept.kept.rows.items) c.loop-column.column (rows_of c.loop-column.out.items) c.loop-column.invariant (omega arith) (kernel_part_solutions c.args.columns (rows_of c.args.rows.now) (rows_of c.in_ok-kept.kept.rows.items) c.in_ok-kept.ensures.items w))
    c.in_err-push_solution.ensures.cause)

pub loop-column-preserved : goal.loop-column-preserved
loop-column-preserved c =
    solved_more c.args.columns (rows_of c.in_ok-kept.kept.rows.items) c.loop-column.column (rows_of c.loop-column.out.items) c.loop-column.invariant (rows_of c.push_solution.new.out.items) (omega arith) c.in_ok-push_solution.ensures.items c.in_ok-push_solution.ensures.fits

pub returns-clause-basis : goal.returns-clause-basis
returns-clause-basis c =
    (kernel_done c.args.columns (rows_of c.args.rows.now) c.requires (rows_of c.in_ok-kept.kept.rows.items) c.in_ok-kept.ensures.items c.in_ok-kept.ensures.fits (rows_of c.loop-column.out.items)
    (solved_end c.args.columns (rows_of c.in_ok-kept.kept.rows.items) c.loop-column.column (rows_of c.loop-column.out.items) c.loop-column.invariant (omega arith))).0

pub returns-clause-fits : goal.returns-clause-fits
returns-clause-fits c =
    work_within (kernel_bulks c.args.columns (rows_of c.args.rows.now))
    (kernel_done c.args.columns (rows_of c.args.rows.now) c.requires (rows_of c.in_ok-kept.kept.rows.items) c.in_ok-kept.ensures.items c.in_ok-kept.ensures.fits (rows_of c.loop-column.out.items)
    (solved_end c.args.columns (rows_of c.in_ok-kept.kept.rows.items) c.loop-column.column (rows_of c.loop-column.out.items) c.loop-column.invariant (omega arith))).1
