use Rattle.std.proofs.Common.{ap, ◌∙◌, ◌++◌, map}
use Rattle.lie_print.specs.PrintedTerms.{printed}
use Rattle.lie_report.proofs.Lists.{with_base, field_terms-push, field_terms-done}
use Rattle.lie_report.proofs.terms.field_terms.Goals as goal

pub loop-variable-preserved : goal.loop-variable-preserved
loop-variable-preserved c =
    field_terms-push c.args.components.now c.loop-variable.variable c.index-components-variable.result (map printed c.loop-variable.terms.items) (map printed c.push_component.new.terms.items) _
    c.loop-variable-test.true
    (c.in_ok-push_component.ensures ∙ ap (λ P. map printed c.loop-variable.terms.items ++ map (with_base c.loop-variable.variable) P.list) c.index-components-variable.is) c.loop-variable.invariant

pub returns : goal.returns
returns c = field_terms-done c.args.components.now c.loop-variable.variable (map printed c.loop-variable.terms.items) _ c.loop-variable-test.false c.loop-variable.invariant
