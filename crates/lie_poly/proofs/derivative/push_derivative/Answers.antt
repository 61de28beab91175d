use Rattle.std.proofs.Common.{arith, ap, ap₂, ◌∙◌, ◌≡◌, ◌++◌, ◌∷◌, [], sym, pos, ◌*ℤ◌, ℤ}
use Rattle.std.proofs.lemmas.Grind.{common_steps}
use Rattle.lie_math.specs.Monomial.{Monomial}
use Rattle.lie_ring.specs.Entries.{entries}
use Rattle.lie_poly.proofs.TermLists.{entries-append}
use Rattle.lie_poly.proofs.DerivativeSteps.{derived_one}
use Rattle.lie_poly.proofs.derivative.push_derivative.Goals as goal

pub returns-clause-items : goal.returns-clause-items
returns-clause-items g c =
    let value = g.C.Ring.value in
    let m : Monomial = c.args.term.now.0 in
    let z : ℤ = value c.args.term.now.1 in
    let pushed : c.push.new.self.items ≡ c.args.out.now.items ++ (c.in_ok-mono.mono, c.in-Some.coefficient) ∷ [] = grind (arith, common_steps) in
    ap (entries value) pushed ∙ entries-append value c.args.out.now.items ((c.in_ok-mono.mono, c.in-Some.coefficient) ∷ [])
    ∙ ap₂ (λ k y. entries value c.args.out.now.items ++ (k, y) ∷ []) c.in_ok-mono.ensures (c.in-Some.ensures.0 ∙ ap (λ n. z *ℤ pos n) c.exponent-exponent.ensures)
    ∙ ap (λ es. entries value c.args.out.now.items ++ es) (sym (derived_one c.args.var m z (λ e. c.if-exponent-eq0.false (c.exponent-exponent.ensures ∙ e))))
