use Rattle.std.proofs.Common.{arith, sym, ap, ◌∙◌, ◌++◌, ◌∷◌, [], take}
use Rattle.lie_lin.specs.Forms.{triples_of, terms_at}
use Rattle.lie_jet.specs.Derivatives.{derivative_of}
use Rattle.lie_lin.proofs.Placing.{triples_of_more}
use Rattle.lie_lin.proofs.Gathering.{terms_at-append}
use Rattle.lie_lin.proofs.sum.terms_of.Goals as goal

pub loop-triple-preserved : goal.loop-triple-preserved
loop-triple-preserved c =
    c.in_ok-push_of.ensures
    ∙ ap (λ es. es ++ terms_at (derivative_of c.args.der.now) ((derivative_of c.triple-item.result.0, c.triple-item.result.1, c.triple-item.result.2) ∷ [])) c.loop-triple.invariant
    ∙ sym (terms_at-append (derivative_of c.args.der.now) (triples_of (take c.loop-triple.triple-index c.args.list.now)) ((derivative_of c.triple-item.result.0, c.triple-item.result.1, c.triple-item.result.2) ∷ []))
    ∙ sym (ap (terms_at (derivative_of c.args.der.now)) (triples_of_more c.args.list.now c.loop-triple.triple-index c.triple-item.result (omega arith) c.triple-item.is))
