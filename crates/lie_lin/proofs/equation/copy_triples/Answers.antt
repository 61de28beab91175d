use Rattle.std.proofs.Common.{arith, ap, ◌∙◌, sym, ◌++◌}
use Rattle.lie_systems.specs.Triples.{triples_with}
use Rattle.lie_jet.specs.Derivatives.{derivative_of}
use Rattle.lie_lin.proofs.Forms.{triples_more}
use Rattle.lie_lin.proofs.equation.copy_triples.Goals as goal

pub loop-term-preserved : goal.loop-term-preserved
loop-term-preserved c =
    c.in_ok-push_triples.ensures ∙ ap (λ ts. ts ++ triples_with (derivative_of c.term-item.result.0) c.term-item.result.1.list) c.loop-term.invariant
    ∙ sym (triples_more c.args.terms.now c.loop-term.term-index c.term-item.result (omega arith) c.term-item.is)
