use Rattle.std.proofs.Common.{subst, ◌∙◌}
use Rattle.std.proofs.lemmas.Result.{err_from_is_err_and}
use Rattle.lie_geometry.specs.Coordinates.{number}
use Rattle.lie_jet.specs.Jets.{coordinate_of}
use Rattle.lie_ring.specs.Causes.{IsCause}
use Rattle.lie_reduce.proofs.AbsoluteSides.{free_size, bulk_same}
use Rattle.lie_reduce.proofs.application.applied_field.Goals as goal

pub applied-requires-clause-free : goal.applied-requires-clause-free
applied-requires-clause-free c = free_size c.jet_number-lead.result (number c.args.space (coordinate_of c.args.space c.args.rule.now.lead)) c.args.rule.now.right c.in_ok-absolute.absolute.right c.in_ok-absolute.ensures.rule.right c.jet_number-lead.ensures.number c.requires.free

pub returns-in_err-bulk-clause-past : goal.returns-in_err-bulk-clause-past
returns-in_err-bulk-clause-past c =
    let p = err_from_is_err_and c.from_residual-in_err-bulk.result c.from_residual-in_err-bulk.ensures.1 in
    rw (p.1, p.2)
    (subst (IsCause c.in_err-bulk.field-0.0)
    (bulk_same c.args.coefficients.now c.as_slice.result.now c.jet_number-lead.result (number c.args.space (coordinate_of c.args.space c.args.rule.now.lead)) c.args.rule.now.c c.in_ok-absolute.absolute.c c.args.rule.now.right c.in_ok-absolute.absolute.right (c.as_slice.ensures.value ∙ c.in_ok-absolutes.ensures.absolute) c.jet_number-lead.ensures.number c.in_ok-absolute.ensures.rule.factor c.in_ok-absolute.ensures.rule.right)
    c.in_err-bulk.ensures.past)
