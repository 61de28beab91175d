use Rattle.std.proofs.Common.{ap, sym, ◌∙◌, ◌≡◌, ◌++◌, ◌∷◌, arith, take, drop, cond}
use Rattle.std.proofs.lemmas.Grind.{common_steps}
use Rattle.lie_math.specs.Polynomial.{WholePolynomial}
use Rattle.lie_jet.specs.Derivatives.{derivative_of}
use Rattle.lie_form.specs.DerivativeTerms.{derivative_terms}
use Rattle.lie_jet.specs.declared.derivative.Der.{Der}
use Rattle.lie_jet.proofs.ListPlaces.{insert_map}
use Rattle.lie_form.proofs.DerivativeLists.{is_not_empty}
use Rattle.lie_form.proofs.form.insert_term.Goals as goal

pub returns-clause-items : goal.returns-clause-items
returns-clause-items c =
    let inserted : c.insert.new.self.items ≡ take c.args.place c.args.terms.now.items ++ (c.args.der, c.args.poly) ∷ drop c.args.place c.args.terms.now.items = grind (arith, common_steps) in
    ap derivative_terms inserted ∙ insert_map (λ (t : Der × WholePolynomial). (derivative_of t.0, t.1)) c.args.terms.now.items c.args.place (c.args.der, c.args.poly)
    ∙ ap (λ b. take c.args.place (derivative_terms c.args.terms.now.items) ++ cond b (drop c.args.place (derivative_terms c.args.terms.now.items)) ((derivative_of c.args.der, c.args.poly) ∷ drop c.args.place (derivative_terms c.args.terms.now.items))) (sym (is_not_empty c.args.poly (λ e. c.if-len-eq0.false (c.len.ensures.count ∙ e))))
