use Rattle.std.proofs.lemmas.Result.{err_from_is_err_and}
use Rattle.lie_jet.proofs.TotalSteps.{wide_product, high_product}
use Rattle.lie_jet.proofs.totals.push_product.Goals as goal

pub returns-in-None-clause-past : goal.returns-in-None-clause-past
returns-in-None-clause-past c = wide_product _ c.args.c c.args.times c.in-None.ensures

pub returns-in_err-mono-clause-past : goal.returns-in_err-mono-clause-past
returns-in_err-mono-clause-past c =
    let p = err_from_is_err_and c.from_residual.result c.from_residual.ensures.1 in
    rw (p.1, p.2) (high_product _ _ c.args.c c.args.times c.requires.not_zero c.requires.positive c.in_err-mono.ensures.high)
