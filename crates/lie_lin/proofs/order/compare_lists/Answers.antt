use Rattle.std.proofs.Common.{◌∙◌, arith, inl, inr, length, ◌≤◌, ◌⊎◌}
use Rattle.lie_lin.proofs.OrderSteps.{order_end}
use Rattle.lie_lin.proofs.order.compare_lists.Goals as goal
use Rattle.lie_lin.proofs.order.compare_lists.Goals.{then-loop-i-test+else-i-right, else-loop-i-test}

pub returns : goal.returns
returns c =
    let over : (length c.args.left.now ≤ c.loop-i.i) ⊎ (length c.args.right.now ≤ c.loop-i.i) =
    elim c.loop-i-test.branch [ then-loop-i-test+else-i-right w ↦ inr (omega arith) | else-loop-i-test w ↦ inl (omega arith) ] in
    c.cmp.ensures ∙ order_end c.args.left.now c.args.right.now c.loop-i.i c.loop-i.invariant.left_in c.loop-i.invariant.right_in over ∙ c.loop-i.invariant.rest
