use Rattle.std.proofs.Common.{sym, subst, take}
use Rattle.std.proofs.lemmas.Result.{err_from_is_err_and}
use Rattle.lie_math.specs.Derivation.{is_below}
use Rattle.lie_math.specs.Limits.{IsWithinLimits, absolute}
use Rattle.lie_math.specs.Polynomial.{◌+ᴾ◌}
use Rattle.lie_math.specs.Variables.{IsIn}
use Rattle.lie_math.specs.VectorField.{component}
use Rattle.lie_geometry.specs.Coordinates.{coordinates_up_to}
use Rattle.lie_geometry.specs.Prolongation.{total_derivative}
use Rattle.lie_ring.specs.Causes.{IsCause}
use Rattle.lie_jet.proofs.BoundedPolynomials.{absolute_in}
use Rattle.lie_prolong.proofs.Absolutes.{absolute_on}
use Rattle.lie_prolong.proofs.Multiples.{bulk_is, bulk_made}
use Rattle.lie_prolong.specs.Bulks.{multiples}
use Rattle.lie_prolong.proofs.coefficient.derived.Goals as goal
use Rattle.lie_prolong.proofs.coefficient.derived.Goals.{After-is_within_limits}

pub step-requires-clause-field : goal.step-requires-clause-field
step-requires-clause-field c = absolute_on c.args.space c.args.field.now c.args.absolute_field.now c.requires.absolute c.requires.field

pub step-requires-clause-low : goal.step-requires-clause-low
step-requires-clause-low c = subst (IsIn (is_below (coordinates_up_to c.args.space 11))) (sym c.in_ok-absolute_before.ensures.absolute) (absolute_in (is_below (coordinates_up_to c.args.space 11)) c.args.before.now c.requires.low)

pub returns-in_err-bulk-clause-past : goal.returns-in_err-bulk-clause-past
returns-in_err-bulk-clause-past c =
    let p = err_from_is_err_and c.from_residual-in_err-bulk.result c.from_residual-in_err-bulk.ensures.1 in
    rw (p.1, p.2) (subst (IsCause _) (bulk_is c.args.space c.args.field.now c.args.absolute_field.now c.args.k c.args.jet.now.dep (take c.args.space.p c.args.jet.now.counts) c.args.before.now c.in_ok-absolute_before.absolute_before c.requires.absolute c.in_ok-absolute_before.ensures.absolute) c.in_err-bulk.ensures.past)

within : (c : After-is_within_limits) → IsWithinLimits (total_derivative c.args.space c.args.k (absolute c.args.before.now) +ᴾ multiples c.args.space (λ i. absolute (component c.args.field.now i)) c.args.k c.args.jet.now.dep (take c.args.space.p c.args.jet.now.counts))
within c =
    subst IsWithinLimits
    (bulk_made c.args.space c.args.field.now c.args.absolute_field.now c.args.k c.args.jet.now.dep (take c.args.space.p c.args.jet.now.counts) c.args.before.now c.in_ok-absolute_before.absolute_before c.in_ok-bulk.bulk c.one.result c.one.ensures c.requires.absolute c.in_ok-absolute_before.ensures.absolute c.in_ok-bulk.ensures.value)
    c.is_within_limits.ensures

pub step_within_limits-requires-clause-limits : goal.step_within_limits-requires-clause-limits
step_within_limits-requires-clause-limits c = within (goal.at.step_within_limits-requires-clause-limits c).After-is_within_limits

pub returns-clause-fits : goal.returns-clause-fits
returns-clause-fits c = within (goal.at.returns-clause-fits c).After-is_within_limits
