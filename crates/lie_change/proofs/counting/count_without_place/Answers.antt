use Rattle.std.proofs.Common.{◌∙◌, ◌+◌, ◌-◌, length, take, drop, remove, ap}
use Rattle.std.proofs.lemmas.Result.{err_from_is_err_and}
use Rattle.lie_systems.specs.Bulk.{triple_count_of_all}
use Rattle.lie_change.proofs.CountSteps.{count_cause, before_few, parts_counted, parts_few, few_counted, past_counted}
use Rattle.lie_change.proofs.counting.count_without_place.Goals as goal

pub returns-in_err-count-clause-past : goal.returns-in_err-count-clause-past
returns-in_err-count-clause-past c =
    let p = err_from_is_err_and c.from_residual.result c.from_residual.ensures.1 in
    rw (p.1, p.2) (count_cause c.in_err-count.field-0.0 (0 + triple_count_of_all (take c.args.place c.args.equations.now))
    (triple_count_of_all (remove c.args.equations.now c.args.place) + triple_count_of_all c.args.general.now)
    (before_few c.args.equations.now c.args.place (triple_count_of_all c.args.general.now)) c.in_err-count.ensures.past)

pub returns-in_err-count-2-clause-past : goal.returns-in_err-count-2-clause-past
returns-in_err-count-2-clause-past c =
    let k = c.args.place in
    let p = err_from_is_err_and c.from_residual-in_err-count-2.result c.from_residual-in_err-count-2.ensures.1 in
    rw (p.1, p.2) (count_cause c.in_err-count-2.field-0.0 (c.in_ok-count.count + triple_count_of_all
    (take (length c.args.equations.now - (k + 1)) (drop (k + 1) c.args.equations.now)))
    (triple_count_of_all (remove c.args.equations.now k) + triple_count_of_all c.args.general.now)
    (parts_few _ _ (triple_count_of_all c.args.general.now)
    (parts_counted c.args.equations.now k c.in_ok-count.count c.in_ok-count.ensures.count)) c.in_err-count-2.ensures.past)

pub returns-clause-few : goal.returns-clause-few
returns-clause-few c =
    few_counted c.count_triples-3.result (c.in_ok-count-2.count + triple_count_of_all c.args.general.now)
    (triple_count_of_all (remove c.args.equations.now c.args.place) + triple_count_of_all c.args.general.now)
    (ap (λ n. n + triple_count_of_all c.args.general.now) (c.in_ok-count-2.ensures.count
    ∙ parts_counted c.args.equations.now c.args.place c.in_ok-count.count c.in_ok-count.ensures.count))
    c.count_triples-3.ensures.count c.count_triples-3.ensures.few

pub returns-clause-past : goal.returns-clause-past
returns-clause-past c =
    past_counted c.count_triples-3.result (c.in_ok-count-2.count + triple_count_of_all c.args.general.now)
    (triple_count_of_all (remove c.args.equations.now c.args.place) + triple_count_of_all c.args.general.now)
    (ap (λ n. n + triple_count_of_all c.args.general.now) (c.in_ok-count-2.ensures.count
    ∙ parts_counted c.args.equations.now c.args.place c.in_ok-count.count c.in_ok-count.ensures.count))
    c.count_triples-3.ensures.past
