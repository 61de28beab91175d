use Rattle.std.proofs.Common.{◌∙◌, ◌∷◌, ◌++◌, [], ap}
use Rattle.lie_rules.proofs.FreshSteps.{powers_next}
use Rattle.lie_rules.proofs.fresh.push_powers.Goals as goal

pub loop-exponent-preserved : goal.loop-exponent-preserved
loop-exponent-preserved c =
    powers_next c.args.var c.loop-exponent.exponent c.args.powers.now.items c.push.new.self.items
    (c.in_ok-push.ensures.items ∙ ap (λ cs. cs ++ (c.args.var, c.loop-exponent.exponent) ∷ []) c.loop-exponent.invariant)
