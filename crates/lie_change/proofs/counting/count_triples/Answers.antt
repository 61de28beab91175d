use Rattle.std.proofs.Common.{length, ◌+◌}
use Rattle.std.proofs.lemmas.Result.{err_from_is_err_and}
use Rattle.lie_systems.specs.Bulk.{triple_count_of_all}
use Rattle.lie_systems.specs.Triples.{triples}
use Rattle.lie_change.proofs.CountSteps.{count_cause, count_more, turn_few}
use Rattle.lie_change.proofs.counting.count_triples.Goals as goal

pub returns-in_err-count-clause-past : goal.returns-in_err-count-clause-past
returns-in_err-count-clause-past c =
    let p = err_from_is_err_and c.from_residual.result c.from_residual.ensures.1 in
    rw (p.1, p.2) (count_cause c.in_err-count.field-0.0 (c.loop-form.count + length (triples c.form-item.result))
    (c.args.before + triple_count_of_all c.args.forms.now)
    (turn_few c.args.before c.loop-form.count c.args.forms.now c.loop-form.form-index c.form-item.result c.loop-form-test.true
    c.form-item.is c.loop-form.invariant.count)
    c.in_err-count.ensures.past)

pub loop-form-preserved : goal.loop-form-preserved
loop-form-preserved c = record {
  count = count_more c.args.before c.loop-form.count c.in_ok-count.count c.args.forms.now c.loop-form.form-index c.form-item.result
      c.loop-form-test.true c.form-item.is c.loop-form.invariant.count c.in_ok-count.ensures.count;
  few = c.in_ok-count.ensures.few;
}
