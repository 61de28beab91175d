use Rattle.std.specs.Prelude.{◌<◌, map, length}
use Rattle.std.specs.List.{range_with_len}
use Rattle.std.proofs.Common.{ap, ◌∙◌, arith}
use Rattle.lie_math.specs.VectorField.{VectorField}
use Rattle.lie_math.proofs.EveryElement.{every-weaken}
use Rattle.lie_spans.specs.ClosedSystems.{component_form}
use Rattle.lie_spans.specs.Fields.{IsFieldIn}
use Rattle.lie_algebra.proofs.RowFields.{made_more}
use Rattle.lie_algebra.proofs.closed_form.general_form.Goals as goal

pub loop-component-init : goal.loop-component-init
loop-component-init c = c.new-forms.ensures.items

pub general_component-requires-clause-components : goal.general_component-requires-clause-components
general_component-requires-clause-components c =
    every-weaken (IsFieldIn c.args.count) (λ (V : VectorField). c.loop-component.component < length V.parts) (λ V f. omega (arith, f.size)) c.args.basis.now c.requires.fields

pub loop-component-preserved : goal.loop-component-preserved
loop-component-preserved c =
    made_more (λ s. component_form s c.args.basis.now 1) c.loop-component.component c.in_ok-form.form c.loop-component.forms.items c.push.new.self.items
    c.in_ok-form.ensures c.in_ok-push.ensures.items c.loop-component.invariant

pub returns : goal.returns
returns c =
    c.loop-component.invariant
    ∙ ap (λ n. map (λ s. component_form s c.args.basis.now 1) (range_with_len 0 n)) (omega arith)
