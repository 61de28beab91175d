use Rattle.std.proofs.Common.{ap, ◌∙◌, arith}
use Rattle.std.specs.Prelude.{◌++◌, ◌∷◌, []}
use Rattle.lie_rows.specs.Rows.{rows_of}
use Rattle.lie_rows.proofs.RowLists.{rows_of_append}
use Rattle.lie_degree.specs.Said.{row_said}
use Rattle.lie_degree.proofs.Loops.{behind_more, behind_done}
use Rattle.lie_degree.proofs.conditions.push_rows.Goals as goal

pub loop-mono-preserved : goal.loop-mono-preserved
loop-mono-preserved c =
    behind_more (row_said c.args.said.now) (rows_of c.args.rows.now.items) c.args.monos.now c.loop-mono.mono-index c.mono-item.result
    (rows_of c.loop-mono.rows.items) (rows_of c.push.new.self.items) (omega arith) c.mono-item.is
    (ap rows_of c.in_ok-push.ensures.items ∙ rows_of_append c.loop-mono.rows.items (c.in_ok-row_said.field-0 ∷ []) ∙ ap
    (λ r. rows_of c.loop-mono.rows.items ++ r ∷ []) c.in_ok-row_said.ensures) c.loop-mono.invariant

pub returns : goal.returns
returns c =
    behind_done (row_said c.args.said.now) (rows_of c.args.rows.now.items) c.args.monos.now c.loop-mono.mono-index
    (rows_of c.loop-mono.rows.items) (omega arith) c.loop-mono.invariant
