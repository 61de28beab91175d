use Rattle.std.proofs.Common.{◌++◌, ◌∷◌, [], ap, sym, ◌∙◌, append_assoc, take, get_or}
use Rattle.lie_solved.specs.Equations.{variables_in}
use Rattle.lie_solved.proofs.Variables.{variables_in_more}
use Rattle.lie_reduce.proofs.occurrences.push_factors.Goals as goal

pub loop-pair-preserved : goal.loop-pair-preserved
loop-pair-preserved c =
    let w = (get_or c.args.pairs.now c.loop-pair.pair-index (0, 0)).0 in
    c.in_ok-push.ensures.items ∙ ap (λ ns. ns ++ w ∷ []) c.loop-pair.invariant
    ∙ append_assoc c.args.numbers.now.items (variables_in (take c.loop-pair.pair-index c.args.pairs.now)) (w ∷ [])
    ∙ ap (λ vs. c.args.numbers.now.items ++ vs) (sym (variables_in_more c.args.pairs.now c.loop-pair.pair-index (0, 0) c.loop-pair-test.true))
