use Rattle.std.proofs.Common.{ap, ◌∙◌}
use Rattle.std.proofs.lemmas.Result.{err_from_is_err_and}
use Rattle.lie_math.specs.Polynomial.{polynomial_of}
use Rattle.lie_math.specs.Limits.{absolutes}
use Rattle.lie_lin.proofs.FormLimits.{same_cause}
use Rattle.lie_lin.proofs.sum.coefficient_of.Goals as goal
use Rattle.lie_jet.proofs.Absolutes.{absolutes_twice}

pub returns-in_err-bulk-clause-past : goal.returns-in_err-bulk-clause-past
returns-in_err-bulk-clause-past c =
    let p = err_from_is_err_and c.from_residual-in_err-bulk.result c.from_residual-in_err-bulk.ensures.1 in
    rw (p.1, p.2) (same_cause _ _ _
    (ap polynomial_of (ap absolutes (c.as_slice-3.ensures.value ∙ c.in_ok-sizes.ensures ∙ ap absolutes (c.as_slice-2.ensures.value ∙ c.in_ok-terms.ensures)) ∙ absolutes_twice _)) c.in_err-bulk.ensures.past)
