use Rattle.std.proofs.Common.{ap, ◌∙◌, sym, arith, ◌++◌, ◌∷◌, []}
use Rattle.lie_poly.proofs.TermLists.{entries_more}
use Rattle.lie_poly.proofs.flat.copy_terms.Goals as goal

pub loop-term-preserved : goal.loop-term-preserved
loop-term-preserved g c =
    c.in_ok-push_copy.ensures ∙ ap (λ es. es ++ (c.term-item.result.0, g.C.Ring.value c.term-item.result.1) ∷ []) c.loop-term.invariant
    ∙ sym (entries_more g.C.Ring.value c.args.terms.now c.loop-term.term-index c.term-item.result (omega arith) c.term-item.is)
