use Rattle.std.proofs.Common.{arith, ap, ap₂, ◌∙◌, ◌≡◌, ◌++◌, ◌∷◌, []}
use Rattle.std.proofs.lemmas.Grind.{common_steps}
use Rattle.lie_ring.specs.Entries.{entries}
use Rattle.lie_poly.proofs.TermLists.{entries-append}
use Rattle.lie_poly.proofs.flat.push_copy.Goals as goal

pub returns : goal.returns
returns g c =
    let value = g.C.Ring.value in
    let pushed : c.push.new.self.items ≡ c.args.out.now.items ++ (c.in_ok-mono.mono, c.copy-c.result) ∷ [] = grind (arith, common_steps) in
    ap (entries value) pushed ∙ entries-append value c.args.out.now.items ((c.in_ok-mono.mono, c.copy-c.result) ∷ [])
    ∙ ap₂ (λ m z. entries value c.args.out.now.items ++ (m, z) ∷ []) c.in_ok-mono.ensures c.copy-c.ensures
