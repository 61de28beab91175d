use Rattle.std.proofs.lemmas.Result.{err_from_is_err_and}
use Rattle.lie_math.specs.PartialDerivative.{partial}
use Rattle.lie_jet.specs.Listed.{sum_listed, bulk_listed}
use Rattle.lie_reduce.specs.Applications.{sides}
use Rattle.lie_reduce.proofs.ApplicationSteps.{none_part, none_size, slope_cause, part_cause}
use Rattle.lie_reduce.proofs.Replacing.{empty_zero, zero_empty}
use Rattle.lie_reduce.proofs.application.push_part.Goals as goal

pub returns-then-len-eq0-clause-sum : goal.returns-then-len-eq0-clause-sum
returns-then-len-eq0-clause-sum c = none_part (sum_listed c.args.made.now.items) c.args.coefficient.now (partial c.args.number (sides c.args.lead c.args.rule.now.c c.args.sign c.args.rule.now.right)) (empty_zero c.args.coefficient.now c.len.result c.len.ensures.count c.if-len-eq0.true)

pub returns-then-len-eq0-clause-bulk : goal.returns-then-len-eq0-clause-bulk
returns-then-len-eq0-clause-bulk c = none_size (bulk_listed c.args.made.now.items) c.args.coefficient.now (partial c.args.number (sides c.args.lead c.args.rule.now.c c.args.sign c.args.rule.now.right)) (empty_zero c.args.coefficient.now c.len.result c.len.ensures.count c.if-len-eq0.true)

pub returns-in_err-slope-clause-past : goal.returns-in_err-slope-clause-past
returns-in_err-slope-clause-past c =
    let p = err_from_is_err_and c.from_residual.result c.from_residual.ensures.1 in
    rw (p.1, p.2) (slope_cause c.in_err-slope.field-0.0 c.args.number c.args.lead c.args.rule.now.c c.args.sign c.args.rule.now.right c.args.coefficient.now c.requires.unit (λ z. c.if-len-eq0.false (zero_empty c.args.coefficient.now c.len.result c.len.ensures.count z)) c.in_err-slope.ensures.past)

pub returns-in_err-part-clause-past : goal.returns-in_err-part-clause-past
returns-in_err-part-clause-past c =
    let p = err_from_is_err_and c.from_residual-in_err-part.result c.from_residual-in_err-part.ensures.1 in
    rw (p.1, p.2) (part_cause c.in_err-part.field-0.0 c.args.number c.args.lead c.args.rule.now.c c.args.sign c.args.rule.now.right c.args.coefficient.now c.in_ok-slope.slope c.requires.unit c.in_ok-slope.ensures.slope c.in_err-part.ensures.past)
