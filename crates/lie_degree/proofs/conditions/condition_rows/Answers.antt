use Rattle.std.proofs.Common.{ap, arith}
use Rattle.std.proofs.lemmas.Result.{err_from_is_err_and}
use Rattle.lie_rows.specs.Rows.{rows_of}
use Rattle.lie_degree.proofs.Rows.{front_start, front_next, front_end, front_within, rows_cause}
use Rattle.lie_degree.proofs.conditions.condition_rows.Goals as goal

pub loop-form-init : goal.loop-form-init
loop-form-init c = front_start c.args.columns.now c.args.equations.now (rows_of c.new-rows.result.items)
    (ap rows_of c.new-rows.ensures.items)

pub loop-form-preserved : goal.loop-form-preserved
loop-form-preserved c =
    let r = c.in_ok-push_conditions.ensures.rows in
    front_next c.args.columns.now c.args.equations.now c.loop-form.form-index (rows_of c.loop-form.rows.items)
    (rows_of c.push_conditions.new.rows.items) c.form-item.result (omega arith) c.form-item.is c.loop-form.invariant
    r.0 r.1 r.2 c.in_ok-push_conditions.ensures.fits

pub returns-in_err-push_conditions-clause-past : goal.returns-in_err-push_conditions-clause-past
returns-in_err-push_conditions-clause-past c =
    let p = err_from_is_err_and c.from_residual.result c.from_residual.ensures.1 in
    rw (p.1, p.2) (rows_cause c.args.columns.now c.args.equations.now c.in_err-push_conditions.field-0.0 c.loop-form.form-index
    c.form-item.result (omega arith) c.form-item.is c.in_err-push_conditions.ensures.past)

pub returns-clause-rows : goal.returns-clause-rows
returns-clause-rows c = front_end c.args.columns.now c.args.equations.now c.loop-form.form-index (rows_of c.loop-form.rows.items)
    (omega arith) c.loop-form.invariant

pub returns-clause-fits : goal.returns-clause-fits
returns-clause-fits c = front_within c.args.columns.now c.args.equations.now c.loop-form.form-index (rows_of c.loop-form.rows.items)
    (omega arith) c.loop-form.invariant
