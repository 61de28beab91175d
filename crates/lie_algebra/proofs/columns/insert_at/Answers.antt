use Rattle.std.specs.Prelude.{◌≤◌, [], ◌∷◌, ◌++◌, length}
use Rattle.std.proofs.Common.{sym, subst, arith}
use Rattle.lie_systems.specs.Works.{greatest_column_count}
use Rattle.lie_algebra.specs.ColumnLists.{AreColumnsOf}
use Rattle.lie_algebra.proofs.ColumnLists.{columns_inserted, one_too_many, inserted_few}
use Rattle.lie_algebra.proofs.columns.insert_at.Goals as goal

pub returns-then-len-ge-MAX_COLUMNS-clause-cause : goal.returns-then-len-ge-MAX_COLUMNS-clause-cause
returns-then-len-ge-MAX_COLUMNS-clause-cause c =
    one_too_many c.args.columns.now.items c.args.column c.args.place c.requires.sorted c.requires.place (omega arith)

pub returns-clause-inserted : goal.returns-clause-inserted
returns-clause-inserted c =
    subst (AreColumnsOf (c.args.columns.now.items ++ c.args.column ∷ [])) (sym c.in_ok-insert.ensures.items)
    (columns_inserted c.args.columns.now.items c.args.column c.args.place c.requires.sorted c.requires.place)

pub returns-clause-few : goal.returns-clause-few
returns-clause-few c =
    subst (λ ks. length ks ≤ greatest_column_count) (sym c.in_ok-insert.ensures.items)
    (inserted_few c.args.columns.now.items c.args.column c.args.place c.requires.place (omega arith))
