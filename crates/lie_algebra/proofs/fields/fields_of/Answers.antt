use Rattle.std.specs.Prelude.{◌++◌, map, length}
use Rattle.std.proofs.Common.{ap, ◌∙◌, arith}
use Rattle.lie_rows.specs.Rows.{rows_of}
use Rattle.lie_spans.specs.FieldRows.{field_of_row}
use Rattle.lie_algebra.proofs.RowFields.{fields_more, fields_end, length_at}
use Rattle.lie_algebra.proofs.fields.fields_of.Goals as goal

pub loop-row-init : goal.loop-row-init
loop-row-init c = ap (λ Vs. Vs ++ map (field_of_row c.args.count c.args.columns.now) (rows_of c.args.rows.now)) c.new-fields.ensures.items

pub field_of-requires-clause-length : goal.field_of-requires-clause-length
field_of-requires-clause-length c =
    ap length c.deref.ensures.value ∙ length_at (length c.args.columns.now) c.args.rows.now c.loop-row.row-index c.row-item.result (omega arith) c.row-item.is c.requires.lengths

pub loop-row-preserved : goal.loop-row-preserved
loop-row-preserved c =
    fields_more c.args.count c.args.columns.now c.args.rows.now c.loop-row.row-index c.row-item.result c.in_ok-field.field c.loop-row.fields.items c.push.new.self.items
    (omega arith) c.row-item.is (c.in_ok-field.ensures ∙ ap (field_of_row c.args.count c.args.columns.now) c.deref.ensures.value)
    c.in_ok-push.ensures.items c.loop-row.invariant

pub returns : goal.returns
returns c =
    fields_end c.args.count c.args.columns.now c.args.rows.now c.loop-row.row-index c.loop-row.fields.items (omega arith) c.loop-row.invariant
