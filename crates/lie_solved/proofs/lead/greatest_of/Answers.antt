use Rattle.std.proofs.Common.{arith, ◌<◌, ◌++◌, sym, ap, subst, ◌∙◌, take}
use Rattle.std.specs.List.{AllByRecursion as Every}
use Rattle.lie_geometry.specs.Coordinates.{coordinates_up_to}
use Rattle.lie_solved.specs.Equations.{IsBest, variables_in, variables_of}
use Rattle.lie_solved.proofs.Variables.{variables_of_more, variables_at}
use Rattle.lie_solved.proofs.lead.greatest_of.Goals as goal

pub greatest_in-best-requires : goal.greatest_in-best-requires
greatest_in-best-requires c =
    subst (λ ps. Every (λ w. w < coordinates_up_to c.args.space 12) (variables_in ps)) (sym c.pairs.ensures)
    (variables_at (λ w. w < coordinates_up_to c.args.space 12) c.args.terms.now c.loop-term.term-index c.term-item.result (omega arith) c.term-item.is c.requires)

pub loop-term-preserved : goal.loop-term-preserved
loop-term-preserved c =
    let made = c.greatest_in-best.ensures (variables_of (take c.loop-term.term-index c.args.terms.now)) c.loop-term.invariant in
    subst (λ vs. IsBest c.args.space vs c.greatest_in-best.result)
    (ap (λ ps. variables_of (take c.loop-term.term-index c.args.terms.now) ++ variables_in ps) c.pairs.ensures ∙ sym (variables_of_more c.args.terms.now c.loop-term.term-index c.term-item.result (omega arith) c.term-item.is)) made
