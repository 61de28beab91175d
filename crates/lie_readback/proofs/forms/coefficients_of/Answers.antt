use Rattle.std.proofs.Common.{sym, ap, ◌∙◌, subst, map, drop, ◌+◌}
use Rattle.std.proofs.lemmas.Result.{err_from_is_err_and}
use Rattle.std.proofs.Math.ListN.{drop_of_length-le}
use Rattle.lie_jet.specs.Derivatives.{derivative_of}
use Rattle.lie_lin.specs.Forms.{coefficients_of}
use Rattle.lie_readback.specs.Groups.{group_seen}
use Rattle.lie_readback.proofs.Found.{FoundSoFar, found_more, found_all}
use Rattle.lie_readback.proofs.Grouping.{IsWithin, part_of, groups_next, part_found, coefficients_push, coefficients_fail}
use Rattle.lie_readback.proofs.forms.coefficients_of.Goals as goal

pub returns-in_err-sum : goal.returns-in_err-sum
returns-in_err-sum c =
    let p = err_from_is_err_and c.from_residual.result c.from_residual.ensures.1 in
    rw (p.1, p.2) (coefficients_fail (λ es. coefficients_of es.items) (map group_seen c.args.groups.now) (coefficients_of c.loop-i.coefficients.items) (map group_seen (drop c.loop-i.i c.args.groups.now)) (map group_seen (drop (c.loop-i.i + 1) c.args.groups.now))
    (derivative_of c.index-groups-i.result.0) c.index-groups-i.result.1.items _ c.in_err-sum.field-0.0 c.loop-i.invariant (groups_next c.args.groups.now c.loop-i.i c.index-groups-i.result c.loop-i-test.true c.index-groups-i.is) c.as_slice.ensures.value c.in_err-sum.ensures)

pub loop-i-preserved : goal.loop-i-preserved
loop-i-preserved c =
    subst (λ l. FoundSoFar IsWithin part_of (map group_seen c.args.groups.now) l (map group_seen (drop (c.loop-i.i + 1) c.args.groups.now)))
    (sym (ap coefficients_of c.in_ok-push.ensures.items ∙ coefficients_push c.loop-i.coefficients.items (c.index-groups-i.result.0, c.in_ok-sum.sum)))
    (found_more IsWithin part_of (map group_seen c.args.groups.now) (coefficients_of c.loop-i.coefficients.items) (derivative_of c.index-groups-i.result.0, c.in_ok-sum.sum) (group_seen c.index-groups-i.result)
    (map group_seen (drop c.loop-i.i c.args.groups.now)) (map group_seen (drop (c.loop-i.i + 1) c.args.groups.now)) c.loop-i.invariant (groups_next c.args.groups.now c.loop-i.i c.index-groups-i.result c.loop-i-test.true c.index-groups-i.is)
    (part_found (derivative_of c.index-groups-i.result.0) c.in_ok-sum.sum c.index-groups-i.result.1.items _ c.as_slice.ensures.value c.in_ok-sum.ensures))

pub returns : goal.returns
returns c =
    found_all IsWithin part_of (map group_seen c.args.groups.now) (coefficients_of c.loop-i.coefficients.items) (map group_seen (drop c.loop-i.i c.args.groups.now)) c.loop-i.invariant
    (ap (map group_seen) (drop_of_length-le c.args.groups.now c.loop-i-test.false))
