use Rattle.lie_math.proofs.EveryElement.{every_at}
use Rattle.lie_math.specs.VectorField.{VectorField}
use Rattle.lie_spans.specs.Fields.{Column, column_before, field_entry}
use Rattle.lie_spans.specs.Reduced.{IsPivot}
use Rattle.lie_spans.proofs.Reduced.{positive_not_zero}
use Rattle.lie_brackets.proofs.tables.generators_of.Goals as goal

pub generator_of-requires-clause-some : goal.generator_of-requires-clause-some
generator_of-requires-clause-some c =
    let p = every_at (λ (V : VectorField). (k : Column) × IsPivot field_entry column_before V k) c.args.basis.now c.loop-field.field-index c.field-item.result c.loop-field-test.true c.field-item.is c.requires.reduced.pivots in
    (p.0, positive_not_zero (field_entry c.field-item.result p.0) p.1.positive)
