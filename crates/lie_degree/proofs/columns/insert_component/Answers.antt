use Rattle.std.proofs.Common.{ap, ◌∙◌, arith}
use Rattle.std.proofs.lemmas.Result.{err_from_is_err_and}
use Rattle.lie_algebra.proofs.ColumnLists.{gather_end}
use Rattle.lie_degree.specs.Columns.{columns_in}
use Rattle.lie_degree.proofs.Loops.{column_more, column_cause, no_column_left}
use Rattle.std.specs.Prelude.{drop}
use Rattle.lie_degree.proofs.columns.insert_component.Goals as goal

pub loop-mono-preserved : goal.loop-mono-preserved
loop-mono-preserved c = record {
  sorted = c.in_ok-insert_column.ensures.inserted.sorted;
  few = c.in_ok-insert_column.ensures.few;
  same = column_more c.args.component c.args.monos.now c.loop-mono.mono-index c.mono-item.result
      (omega arith) c.mono-item.is c.loop-mono.columns.items _ c.new.result
      (c.new.ensures ∙ ap (λ m. (c.args.component, m)) c.in_ok-copy.ensures) c.loop-mono.invariant.same c.insert_column.new.columns.items
      c.in_ok-insert_column.ensures.inserted;
}

pub returns-in_err-insert_column-clause-cause : goal.returns-in_err-insert_column-clause-cause
returns-in_err-insert_column-clause-cause c =
    let p = err_from_is_err_and c.from_residual-in_err-insert_column.result c.from_residual-in_err-insert_column.ensures.1 in
    rw (p.1, p.2) (column_cause c.args.component c.args.monos.now c.loop-mono.mono-index c.mono-item.result
    (omega arith) c.mono-item.is c.loop-mono.columns.items _ c.new.result
    (c.new.ensures ∙ ap (λ m. (c.args.component, m)) c.in_ok-copy.ensures) c.loop-mono.invariant.same c.in_err-insert_column.field-0.0
    c.in_err-insert_column.ensures.cause)

pub returns-clause-inserted : goal.returns-clause-inserted
returns-clause-inserted c =
    gather_end c.loop-mono.columns.items (columns_in c.args.component (drop c.loop-mono.mono-index c.args.monos.now)) _
    (no_column_left c.args.component c.args.monos.now c.loop-mono.mono-index (omega arith)) c.loop-mono.invariant.sorted
    c.loop-mono.invariant.same
