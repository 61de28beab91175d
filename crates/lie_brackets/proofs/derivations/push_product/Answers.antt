use Rattle.std.proofs.lemmas.Result.{err_from_is_err_and}
use Rattle.lie_ring.proofs.Limits.{wide_term}
use Rattle.lie_brackets.proofs.DerivedTerms.{high_term}
use Rattle.lie_brackets.proofs.derivations.push_product.Goals as goal

pub returns-in-None-clause-past : goal.returns-in-None-clause-past
returns-in-None-clause-past c = wide_term _ _ c.in-None.ensures

pub returns-in_err-mono-clause-past : goal.returns-in_err-mono-clause-past
returns-in_err-mono-clause-past c =
    let p = err_from_is_err_and c.from_residual.result c.from_residual.ensures.1 in
    rw (p.1, p.2) (high_term _ _ c.args.term.now.1 c.args.number c.requires.left c.requires.right c.in_err-mono.ensures.high)
