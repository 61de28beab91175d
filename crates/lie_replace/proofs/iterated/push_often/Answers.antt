use Rattle.std.proofs.Common.{◌∙◌, ap, ◌++◌, replicate, arith, ◌-◌, List, ℕ}
use Rattle.lie_replace.proofs.IteratedSteps.{one_less}
use Rattle.lie_replace.proofs.iterated.push_often.Goals as goal

pub loop-left-preserved : goal.loop-left-preserved
loop-left-preserved c =
    ap (λ (xs : List ℕ). xs ++ replicate (c.loop-left.left - 1) c.args.var) c.in_ok-push.ensures.items ∙ one_less c.loop-left.vars.items c.loop-left.left c.args.var (omega arith) ∙ c.loop-left.invariant
