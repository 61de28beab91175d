use Rattle.lie_rows.proofs.RowLists.{divided_by_one}
use Rattle.lie_rows.proofs.row.primitive_row.Goals as goal

pub returns-then-by-eq1 : goal.returns-then-by-eq1
returns-then-by-eq1 c = divided_by_one c.args.row.items c.args.by c.requires.value c.if-by-eq1.true
