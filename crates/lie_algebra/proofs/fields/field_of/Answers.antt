use Rattle.std.proofs.Common.{◌∙◌, arith}
use Rattle.lie_math.specs.Polynomial.{polynomial_of}
use Rattle.lie_spans.specs.FieldRows.{row_terms}
use Rattle.lie_algebra.proofs.RowFields.{made_more, field_made}
use Rattle.lie_algebra.proofs.fields.field_of.Goals as goal

pub loop-component-init : goal.loop-component-init
loop-component-init c = c.new-parts.ensures.items

pub loop-component-preserved : goal.loop-component-preserved
loop-component-preserved c =
    made_more (λ s. polynomial_of (row_terms s c.args.columns.now c.args.row.now)) c.loop-component.component c.in_ok-part.part c.loop-component.parts.items c.push.new.self.items
    c.in_ok-part.ensures c.in_ok-push.ensures.items c.loop-component.invariant

pub returns : goal.returns
returns c =
    field_made c.new.result c.args.count c.loop-component.component c.args.columns.now c.args.row.now c.new.ensures.den (omega arith)
    (c.new.ensures.parts ∙ c.loop-component.invariant)
