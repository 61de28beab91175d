use Rattle.std.proofs.Common.{subst}
use Rattle.std.specs.List.{Contains}
use Rattle.lie_lin.specs.EquationLists.{IsInsertionPoint}
use Rattle.lie_spans.specs.Fields.{column_cmp}
use Rattle.lie_algebra.proofs.ColumnLists.{columns_present}
use Rattle.lie_algebra.proofs.columns.insert_column.Goals as goal

pub returns-in-Ok-clause-inserted : goal.returns-in-Ok-clause-inserted
returns-in-Ok-clause-inserted c =
    columns_present c.args.columns.now.items c.args.column c.requires.sorted
    (subst (λ ks. Contains ks c.args.column) c.as_slice.ensures.value (rw c.in-Ok.is at c.place_of.ensures))

pub insert_at-requires-clause-place : goal.insert_at-requires-clause-place
insert_at-requires-clause-place c =
    subst (λ ks. IsInsertionPoint column_cmp c.args.column ks c.in-Err.place) c.as_slice.ensures.value (rw c.in-Err.is at c.place_of.ensures)
