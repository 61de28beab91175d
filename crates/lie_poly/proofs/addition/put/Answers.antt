use Rattle.std.proofs.Common.{arith, ap, ◌∙◌, ◌≡◌, ◌++◌, ◌∷◌, [], sym}
use Rattle.std.proofs.lemmas.Grind.{common_steps}
use Rattle.lie_ring.specs.Entries.{entries}
use Rattle.lie_poly.proofs.TermLists.{entries-append}
use Rattle.lie_poly.proofs.TallyLists.{with_other}
use Rattle.lie_poly.proofs.addition.put.Goals as goal

pub returns-clause-items : goal.returns-clause-items
returns-clause-items g c =
    let value = g.C.Ring.value in
    let pushed : c.push.new.self.items ≡ c.args.to.now.items ++ c.args.term ∷ [] = grind (arith, common_steps) in
    ap (entries value) pushed ∙ entries-append value c.args.to.now.items (c.args.term ∷ [])
    ∙ ap (λ es. entries value c.args.to.now.items ++ es) (sym (with_other c.args.term.0 (value c.args.term.1) [] (λ e. c.if-size-eq0.false (c.size.ensures.size ∙ e))))
