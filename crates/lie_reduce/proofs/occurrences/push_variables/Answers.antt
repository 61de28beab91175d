use Rattle.std.proofs.Common.{List, ℕ, ◌++◌, ap, ap₂, sym, ◌∙◌, append_assoc, take}
use Rattle.lie_solved.specs.Equations.{variables_in, variables_of}
use Rattle.lie_solved.proofs.Variables.{variables_of_more}
use Rattle.lie_reduce.proofs.occurrences.push_variables.Goals as goal

pub loop-term-preserved : goal.loop-term-preserved
loop-term-preserved c =
    c.in_ok-push_factors.ensures ∙ ap₂ (λ (ns : List ℕ) (ps : List (ℕ × ℕ)). ns ++ variables_in ps) c.loop-term.invariant c.pairs.ensures
    ∙ append_assoc c.args.numbers.now.items (variables_of (take c.loop-term.term-index c.args.terms.now)) (variables_in (c.term-item.result.0).list)
    ∙ ap (λ vs. c.args.numbers.now.items ++ vs) (sym (variables_of_more c.args.terms.now c.loop-term.term-index c.term-item.result c.loop-term-test.true c.term-item.is))
