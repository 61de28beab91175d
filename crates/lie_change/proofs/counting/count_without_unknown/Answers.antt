use Rattle.std.proofs.Common.{◌+◌, ◌∷◌, []}
use Rattle.std.proofs.lemmas.Result.{err_from_is_err_and}
use Rattle.lie_systems.specs.Bulk.{triple_count_of_all}
use Rattle.lie_change.specs.Lists.{unmentioned}
use Rattle.lie_change.proofs.CountSteps.{count_cause, others_more, others_turn_few}
use Rattle.lie_change.proofs.counting.count_without_unknown.Goals as goal

pub returns-in_err-count-clause-past : goal.returns-in_err-count-clause-past
returns-in_err-count-clause-past c =
    let p = err_from_is_err_and c.from_residual.result c.from_residual.ensures.1 in
    rw (p.1, p.2) (count_cause c.in_err-count.field-0.0 (c.loop-equation.count + triple_count_of_all
    (unmentioned c.args.number (c.equation-item.result ∷ [])))
    (triple_count_of_all (unmentioned c.args.number c.args.equations.now) + triple_count_of_all c.args.general.now)
    (others_turn_few c.args.number c.loop-equation.count (triple_count_of_all c.args.general.now) c.args.equations.now
    c.loop-equation.equation-index c.equation-item.result c.loop-equation-test.true c.equation-item.is c.loop-equation.invariant.count)
    c.in_err-count.ensures.past)

pub loop-equation-preserved : goal.loop-equation-preserved
loop-equation-preserved c = record {
  count = others_more c.args.number c.loop-equation.count c.in_ok-count.count c.args.equations.now c.loop-equation.equation-index
      c.equation-item.result c.loop-equation-test.true c.equation-item.is c.loop-equation.invariant.count c.in_ok-count.ensures.count;
  few = c.in_ok-count.ensures.few;
}
