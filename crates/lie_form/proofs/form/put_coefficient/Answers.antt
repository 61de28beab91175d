use Rattle.std.proofs.Common.{ap, sym, ◌∙◌, ◌++◌, ◌∷◌, take, cond}
use Rattle.lie_math.specs.Counts.{Derivative}
use Rattle.lie_math.specs.Polynomial.{WholePolynomial}
use Rattle.lie_jet.specs.Derivatives.{derivative_of}
use Rattle.lie_form.specs.DerivativeTerms.{derivative_terms}
use Rattle.lie_jet.specs.declared.derivative.Der.{Der}
use Rattle.std.proofs.lemmas.List.{map-set}
use Rattle.lie_jet.proofs.ListPlaces.{remove_map, after_cut, set_cut}
use Rattle.lie_form.proofs.DerivativeLists.{term_at, is_empty, is_not_empty}
use Rattle.lie_form.proofs.form.put_coefficient.Goals as goal

pub returns-then-len-eq0 : goal.returns-then-len-eq0
returns-then-len-eq0 c e fs q =
    let dts = derivative_terms c.args.terms.now.items in
    ap derivative_terms c.remove.ensures.items ∙ remove_map (λ (t : Der × WholePolynomial). (derivative_of t.0, t.1)) c.args.terms.now.items c.args.place
    ∙ ap (λ l. take c.args.place dts ++ l) (after_cut dts fs c.args.place e q)
    ∙ ap (λ b. take c.args.place dts ++ cond b fs ((e.0, c.args.coefficient) ∷ fs)) (sym (is_empty c.args.coefficient (sym c.len.ensures.count ∙ c.if-len-eq0.true)))

pub returns-else-len-eq0 : goal.returns-else-len-eq0
returns-else-len-eq0 c e fs q =
    let dts = derivative_terms c.args.terms.now.items in
    map-set (λ (t : Der × WholePolynomial). (derivative_of t.0, t.1)) c.args.terms.now.items c.args.place (c.index_mut.result.now.0, c.args.coefficient)
    ∙ set_cut dts fs c.args.place e _ q
    ∙ ap (λ d. take c.args.place dts ++ (d, c.args.coefficient) ∷ fs) (ap (λ (y : Derivative × WholePolynomial). y.0) (term_at c.args.terms.now.items fs c.args.place e c.index_mut.result.now q c.index_mut.ensures.value))
    ∙ ap (λ b. take c.args.place dts ++ cond b fs ((e.0, c.args.coefficient) ∷ fs)) (sym (is_not_empty c.args.coefficient (λ z. c.if-len-eq0.false (c.len.ensures.count ∙ z))))
