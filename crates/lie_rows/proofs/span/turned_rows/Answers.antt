use Rattle.std.proofs.Common.{[], ◌∷◌, ap, ◌∙◌}
use Rattle.lie_rows.specs.Rows.{rows_of}
use Rattle.lie_rows.proofs.RowLists.{rows_of_append, turned_more}
use Rattle.lie_rows.proofs.span.turned_rows.Goals as goal

pub loop-row-preserved : goal.loop-row-preserved
loop-row-preserved c =
    turned_more (rows_of c.loop-row.out.items) (rows_of c.push.new.self.items) _ (rows_of c.loop-row.row-iterator.rest.items) c.in-Some.row.items c.in_ok-turned.turned.items (rows_of c.next.new.self.rest.items)
    (ap rows_of c.in-Some.ensures.steps.0) c.in_ok-turned.ensures (ap rows_of c.in_ok-push.ensures.items ∙ rows_of_append c.loop-row.out.items (c.in_ok-turned.turned ∷ [])) c.loop-row.invariant
