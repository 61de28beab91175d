use Rattle.std.proofs.Common.{arith, ap, ◌∙◌, ◌≡◌, ◌++◌, ◌∷◌, [], sym}
use Rattle.std.proofs.lemmas.Grind.{common_steps}
use Rattle.lie_ring.specs.Entries.{entries}
use Rattle.lie_poly.proofs.TermLists.{entries-append}
use Rattle.lie_poly.proofs.TallyLists.{with_other}
use Rattle.lie_poly.proofs.tally.push_unless_zero.Goals as goal

pub returns : goal.returns
returns g c =
    let value = g.C.Ring.value in
    let pushed : c.push.new.self.items ≡ c.args.out.now.items ++ (c.args.tally.mono, c.args.tally.sum) ∷ [] = grind (arith, common_steps) in
    ap (entries value) pushed ∙ entries-append value c.args.out.now.items ((c.args.tally.mono, c.args.tally.sum) ∷ [])
    ∙ ap (λ es. entries value c.args.out.now.items ++ es) (sym (with_other c.args.tally.mono (value c.args.tally.sum) [] (λ e. c.if-size-eq0.false (c.size.ensures.size ∙ e))))
