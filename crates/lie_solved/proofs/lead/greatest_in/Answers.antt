use Rattle.std.proofs.Common.{arith, ◌<◌, ◌++◌, ◌∷◌, [], sym, ap, subst, ◌∙◌, append_assoc, take, get_or}
use Rattle.lie_geometry.specs.Coordinates.{coordinates_up_to}
use Rattle.lie_solved.specs.Equations.{IsBest, variables_in}
use Rattle.lie_solved.proofs.Variables.{variables_in_more, variable_at}
use Rattle.lie_solved.proofs.lead.greatest_in.Goals as goal
use Rattle.lie_ring.proofs.Fronts.{all_taken}

pub greater_of-best-requires : goal.greater_of-best-requires
greater_of-best-requires c = variable_at (λ w. w < coordinates_up_to c.args.space 12) c.args.pairs.now c.loop-pair.pair-index (0, 0) c.loop-pair-test.true c.requires

pub loop-pair-preserved : goal.loop-pair-preserved
loop-pair-preserved c = λ ws h.
    let e = append_assoc ws (variables_in (take c.loop-pair.pair-index c.args.pairs.now)) ((get_or c.args.pairs.now c.loop-pair.pair-index (0, 0)).0 ∷ []) ∙ ap (λ vs. ws ++ vs) (sym (variables_in_more c.args.pairs.now c.loop-pair.pair-index (0, 0) c.loop-pair-test.true)) in
    subst (λ vs. IsBest c.args.space vs c.greater_of-best.result) e (c.greater_of-best.ensures (ws ++ variables_in (take c.loop-pair.pair-index c.args.pairs.now)) (c.loop-pair.invariant ws h))

pub returns : goal.returns
returns c = λ ws h.
    subst (λ ps. IsBest c.args.space (ws ++ variables_in ps) c.loop-pair.best) (all_taken c.args.pairs.now c.loop-pair.pair-index (omega (arith, c.loop-pair-test.false))) (c.loop-pair.invariant ws h)
