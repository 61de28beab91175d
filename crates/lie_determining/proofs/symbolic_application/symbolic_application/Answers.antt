use Rattle.std.proofs.lemmas.Result.{err_from_is_err_and}
use Rattle.lie_math.specs.LinearForm.{no_form}
use Rattle.lie_reduce.specs.Applications.{sides}
use Rattle.lie_determining.proofs.AppliedForms.{forms_more, forms_cause}
use Rattle.lie_reduce.proofs.Places.{at_place}
use Rattle.lie_determining.proofs.symbolic_application.symbolic_application.Goals as goal

pub returns-in_err-put_multiple-clause-past : goal.returns-in_err-put_multiple-clause-past
returns-in_err-put_multiple-clause-past c =
    let p = err_from_is_err_and c.from_residual.result c.from_residual.ensures.1 in
    rw (p.1, p.2) (forms_cause c.args.forms.now (sides c.args.lead c.args.rule.now.c c.args.sign c.args.rule.now.right) _ c.loop-w.sum c.loop-w.w c.index-forms-w.result c.loop-w-test.true (at_place c.args.forms.now c.loop-w.w c.index-forms-w.result no_form c.loop-w-test.true c.index-forms-w.is) c.loop-w.invariant c.in_err-put_multiple.ensures.past)

pub loop-w-preserved : goal.loop-w-preserved
loop-w-preserved c = forms_more c.args.forms.now (sides c.args.lead c.args.rule.now.c c.args.sign c.args.rule.now.right) c.loop-w.sum c.put_multiple.new.sum c.loop-w.w c.index-forms-w.result (at_place c.args.forms.now c.loop-w.w c.index-forms-w.result no_form c.loop-w-test.true c.index-forms-w.is) c.loop-w.invariant c.in_ok-put_multiple.ensures.sum
