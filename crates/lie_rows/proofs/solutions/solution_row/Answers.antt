use Rattle.std.proofs.Common.{◌+◌, map, sym, subst, arith}
use Rattle.std.specs.Prelude.{unsigned_abs}
use Rattle.lie_spans.specs.Solutions.{solution_row}
use Rattle.lie_rows.specs.Rows.{rows_of}
use Rattle.lie_rows.proofs.Causes.{work_past}
use Rattle.lie_rows.proofs.SolutionEntries.{Filling, filling_more, filling_start, entry_past, multiple_past}
use Rattle.lie_rows.proofs.solutions.solution_row.Goals as goal

pub loop-j-init : goal.loop-j-init
loop-j-init c = subst (Filling c.args.column c.args.columns (rows_of c.args.kept.now.rows.items) 0) (sym c.new-out.ensures.items) (filling_start c.args.column c.args.columns (rows_of c.args.kept.now.rows.items))

pub loop-j-preserved : goal.loop-j-preserved
loop-j-preserved c =
    subst (Filling c.args.column c.args.columns (rows_of c.args.kept.now.rows.items) (c.loop-j.j + 1)) (sym c.in_ok-push-in-Some-solution_entry.ensures.items)
    (filling_more c.args.column c.args.columns (rows_of c.args.kept.now.rows.items) c.loop-j.j c.loop-j.out.items c.in-Some-solution_entry.entry c.loop-j.invariant (omega arith) c.in-Some-solution_entry.ensures.0 c.in-Some-solution_entry.ensures.1)

pub returns-in-None-clause-cause : goal.returns-in-None-clause-cause
returns-in-None-clause-cause c = work_past (map unsigned_abs (solution_row c.args.columns (rows_of c.args.kept.now.rows.items) c.args.column)) (multiple_past c.args.column c.args.columns (rows_of c.args.kept.now.rows.items) c.requires.inside c.in-None.ensures)

pub returns-in-None-solution_entry-clause-cause : goal.returns-in-None-solution_entry-clause-cause
returns-in-None-solution_entry-clause-cause c =
    work_past (map unsigned_abs (solution_row c.args.columns (rows_of c.args.kept.now.rows.items) c.args.column)) (entry_past c.args.column c.args.columns (rows_of c.args.kept.now.rows.items) c.loop-j.j (omega arith) c.in-None-solution_entry.ensures)
