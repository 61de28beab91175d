use Rattle.std.proofs.Common.{◌++◌, ◌∙◌, ap, sym, append_assoc}
use Rattle.lie_systems.specs.Triples.{triples_with}
use Rattle.lie_jet.specs.Derivatives.{derivative_of}
use Rattle.lie_lin.specs.Forms.{triples_of}
use Rattle.lie_lin.proofs.Forms.{triples_more}
use Rattle.lie_change.proofs.dividing.push_form.Goals as goal

pub loop-term-preserved : goal.loop-term-preserved
loop-term-preserved c =
    c.in_ok-push_triples.ensures ∙ ap (λ ts. ts ++ triples_with
    (derivative_of c.term-item.result.0) c.term-item.result.1.list) c.loop-term.invariant
    ∙ append_assoc (triples_of c.args.list.now.items) _ (triples_with (derivative_of c.term-item.result.0) c.term-item.result.1.list)
    ∙ ap (λ ts. triples_of c.args.list.now.items ++ ts) (sym
    (triples_more _ c.loop-term.term-index c.term-item.result c.loop-term-test.true c.term-item.is))
