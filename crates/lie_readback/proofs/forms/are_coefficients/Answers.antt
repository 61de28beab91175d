use Rattle.std.proofs.Common.{arith, ◌-◌}
use Rattle.lie_readback.proofs.Grouping.{not_in_order}
use Rattle.lie_readback.proofs.forms.are_coefficients.Goals as goal

pub returns-then-not-is_before-clause-decided : goal.returns-then-not-is_before-clause-decided
returns-then-not-is_before-clause-decided c =
    let some = c.loop-i-test.true in
    let within = c.loop-i.invariant.within in
    not_in_order c.args.coefficients.now (c.loop-i.i - 1) c.index-coefficients-i-in-loop-i.result (omega arith) c.index-coefficients-i-in-loop-i.is c.if-not-is_before.ensures
