use Rattle.std.proofs.Common.{◌≡◌, arith, ap, ◌∙◌, sym, ◌++◌}
use Rattle.lie_systems.specs.Triples.{triples_with}
use Rattle.lie_lin.specs.Forms.{triples_of}
use Rattle.lie_jet.specs.Derivatives.{derivative_of}
use Rattle.lie_lin.proofs.Forms.{triple_moved, triples_moved}
use Rattle.lie_lin.proofs.equation.push_triples.Goals as goal
use Rattle.lie_jet.proofs.TotalParts.{entries_same}

pub loop-mono-preserved : goal.loop-mono-preserved
loop-mono-preserved c = triple_moved c.args.term.now.0 c.in-Some.mono c.in-Some.number c.loop-mono.out.items c.push.new.self.items c.loop-mono.mono-iterator.rest.items c.next.new.self.rest.items _ c.in_ok-push.ensures.items c.in-Some.ensures.steps.0 c.loop-mono.invariant

pub returns : goal.returns
returns c =
    let i : c.into_iter-mono-iterator.result.rest.items ≡ c.in_ok-list.list.items = c.into_iter-mono-iterator.ensures.into_iter_gives.0 in
    let o = c.loop-mono.mono-iterator.rest.ok in
    triples_moved (derivative_of c.args.term.now.0) (triples_of c.loop-mono.out.items) _ c.loop-mono.mono-iterator.rest.items (omega (arith, o, c.in-None.ensures.steps.0)) c.loop-mono.invariant
    ∙ ap (λ xs. triples_of c.args.out.now.items ++ triples_with (derivative_of c.args.term.now.0) xs) (i ∙ sym (entries_same c.in_ok-list.list.items) ∙ c.in_ok-list.ensures)
