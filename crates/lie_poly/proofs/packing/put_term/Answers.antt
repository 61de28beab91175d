use Rattle.std.proofs.Common.{◌≡◌, ◌++◌, ◌∷◌, [], arith, sym, ap, ◌∙◌}
use Rattle.std.proofs.lemmas.Grind.{common_steps}
use Rattle.lie_ring.specs.Entries.{entries}
use Rattle.lie_poly.proofs.TermLists.{entries-append}
use Rattle.lie_poly.proofs.PackingSteps.{term_is_zero, term_is_other}
use Rattle.lie_poly.proofs.packing.put_term.Goals as goal

pub returns-then-size-eq0 : goal.returns-then-size-eq0
returns-then-size-eq0 g c =
    term_is_zero g.C.Ring.value c.args.base c.args.vars.now c.args.most c.args.packed.now c.args.out.now.items (sym c.size.ensures.size ∙ c.if-size-eq0.true)

pub returns : goal.returns
returns g c =
    let value = g.C.Ring.value in
    let pushed : c.push.new.self.items ≡ c.args.out.now.items ++ (c.in_ok-mono.mono, c.copy-number.result) ∷ [] = grind (arith, common_steps) in
    term_is_other value c.args.base c.args.vars.now c.args.most c.args.packed.now c.in_ok-mono.mono c.copy-number.result c.args.out.now.items c.push.new.self.items
    (λ e. c.if-size-eq0.false (c.size.ensures.size ∙ e)) c.in_ok-mono.ensures c.copy-number.ensures
    (ap (entries value) pushed ∙ entries-append value c.args.out.now.items ((c.in_ok-mono.mono, c.copy-number.result) ∷ []))
