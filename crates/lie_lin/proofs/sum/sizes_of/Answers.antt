use Rattle.std.proofs.Common.{arith, sym, ap₂, ◌∙◌, ◌++◌, ◌∷◌, []}
use Rattle.lie_lin.proofs.Gathering.{absolutes_more}
use Rattle.lie_lin.proofs.sum.sizes_of.Goals as goal

pub loop-mono-preserved : goal.loop-mono-preserved
loop-mono-preserved c =
    c.in_ok-push_term.ensures ∙ ap₂ (λ xs z. xs ++ (c.loop-mono-item.result.0, z) ∷ []) c.loop-mono.invariant c.absolute.ensures
    ∙ sym (absolutes_more c.args.terms.now c.loop-mono.mono-index c.loop-mono-item.result (omega arith) c.loop-mono-item.is)
