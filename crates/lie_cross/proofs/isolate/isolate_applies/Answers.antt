use Rattle.std.proofs.lemmas.Result.{err_from_is_err_and}
use Rattle.lie_cross.proofs.TestedRules.{isolate_fits, isolate_cause, isolate_told}
use Rattle.lie_cross.proofs.isolate.isolate_applies.Goals as goal

pub returns-in_err-found-clause-past : goal.returns-in_err-found-clause-past
returns-in_err-found-clause-past c =
    let p = err_from_is_err_and c.from_residual.result c.from_residual.ensures.1 in
    rw (p.1, p.2) (isolate_cause c.args.system.now.system c.args.place c.in_err-found.field-0.0 c.requires c.in_err-found.ensures.past)

pub returns-clause-fits : goal.returns-clause-fits
returns-clause-fits c = isolate_fits c.args.system.now.system c.args.place c.in_ok-found.ensures.fits

pub returns-clause-tested : goal.returns-clause-tested
returns-clause-tested c =
    isolate_told c.args.system.now.system c.args.place c.in_ok-found.found c.in_ok-found.ensures.found c.is_some.result c.is_some.ensures
