use Rattle.std.proofs.Common.{ap, ◌∙◌, ◌++◌, ◌∷◌, []}
use Rattle.lie_math.specs.Polynomial.{constant}
use Rattle.lie_lin.proofs.DividedForms.{alone_are, alone_is}
use Rattle.lie_lin.proofs.normalised.derivative_alone.Goals as goal

pub of_terms-requires : goal.of_terms-requires
of_terms-requires c =
    alone_are c.args.der c.in_ok-one.one c.push.new.self.items (c.in_ok-push.ensures.items ∙ ap (λ xs. xs ++ (c.args.der, c.in_ok-one.one) ∷ []) c.new-terms.ensures.items)
    (c.in_ok-one.ensures ∙ ap constant c.one.ensures)

pub returns : goal.returns
returns c =
    alone_is c.args.der c.in_ok-one.one c.push.new.self.items c.of_terms.result (c.in_ok-push.ensures.items ∙ ap (λ xs. xs ++ (c.args.der, c.in_ok-one.one) ∷ []) c.new-terms.ensures.items)
    (c.in_ok-one.ensures ∙ ap constant c.one.ensures)
    c.of_terms.ensures
