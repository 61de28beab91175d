use Rattle.std.proofs.Common.{arith, sym, ap, ◌∙◌, ◌++◌, ◌∷◌, []}
use Rattle.lie_solved.specs.Equations.{rest_of}
use Rattle.lie_solved.proofs.OtherTerms.{rest_of_more}
use Rattle.lie_solved.proofs.linear.terms_without.Goals as goal

pub loop-term-preserved : goal.loop-term-preserved
loop-term-preserved c =
    c.in_ok-push_without.ensures ∙ ap (λ es. es ++ rest_of c.args.number c.args.negative (c.term-item.result ∷ [])) c.loop-term.invariant
    ∙ sym (rest_of_more c.args.number c.args.negative c.args.terms.now c.loop-term.term-index c.term-item.result (omega arith) c.term-item.is)
