use Rattle.std.proofs.Common.{◌≡◌, ◌<◌, ◌∙◌, ap, sym, subst, List, length, get_or, map}
use Rattle.std.specs.Prelude.{ℤ, pos, unsigned_abs}
use Rattle.std.specs.List.{AllByRecursion as Every}
use Rattle.std.proofs.lemmas.Result.{err_from_is_err_and}
use Rattle.lie_math.specs.Limits.{absolutes}
use Rattle.lie_math.specs.Monomial.{Monomial}
use Rattle.lie_math.specs.Polynomial.{polynomial_of}
use Rattle.lie_math.proofs.EveryElement.{every_at}
use Rattle.lie_ring.specs.Causes.{IsCause}
use Rattle.lie_ring.proofs.Fronts.{all_taken}
use Rattle.lie_jet.proofs.TotalParts.{entries_same, if_ok}
use Rattle.lie_jet.proofs.TotalSteps.{if_err}
use Rattle.lie_integral.specs.Integrals.{ClearsTerm, integrated_term}
use Rattle.lie_integral.proofs.IntegralForms.{term_cause, absolute_integrated, terms_apart}
use Rattle.lie_integral.proofs.integral.integrated_polynomial.Goals as goal
use Rattle.lie_integral.proofs.integral.integrated_polynomial.Goals.{After-as_slice-term-items}

listed : (c : After-as_slice-term-items) → c.as_slice-term-items.result.now ≡ c.args.poly.now.list
listed c = c.as_slice-term-items.ensures.value ∙ sym (entries_same c.in_ok-list.list.items) ∙ c.in_ok-list.ensures

pub push_integrated-requires-clause-counts : goal.push_integrated-requires-clause-counts
push_integrated-requires-clause-counts c =
    let k = (goal.at.push_integrated-requires-clause-counts c).After-as_slice-term-items in
    every_at (λ (e : Monomial × ℤ). ¬ (e.1 ≡ pos 0)) c.as_slice-term-items.result.now c.loop-term.term-index c.term-item.result
    c.loop-term-test.true c.term-item.is
    (subst (Every (λ (e : Monomial × ℤ). ¬ (e.1 ≡ pos 0))) (sym (listed k)) (terms_apart c.args.poly.now))

pub push_integrated-requires-clause-clears : goal.push_integrated-requires-clause-clears
push_integrated-requires-clause-clears c =
    let k = (goal.at.push_integrated-requires-clause-clears c).After-as_slice-term-items in
    every_at (ClearsTerm c.args.integration.now.number c.args.integration.now.var c.args.integration.now.times
    (unsigned_abs c.args.denominator)) c.as_slice-term-items.result.now c.loop-term.term-index c.term-item.result c.loop-term-test.true
    c.term-item.is
    (subst (Every (ClearsTerm c.args.integration.now.number c.args.integration.now.var c.args.integration.now.times
    (unsigned_abs c.args.denominator))) (sym (listed k)) c.requires.clears)

pub returns-in_err-push_integrated-clause-past : goal.returns-in_err-push_integrated-clause-past
returns-in_err-push_integrated-clause-past c =
    let k = (goal.at.returns-in_err-push_integrated-clause-past c).After-as_slice-term-items in
    let p = err_from_is_err_and c.from_residual-in_err-push_integrated.result c.from_residual-in_err-push_integrated.ensures.1 in
    rw (p.1, p.2) (term_cause c.args.integration.now.number c.requires.apart c.args.integration.now.var c.args.integration.now.times
    c.args.denominator c.requires.positive c.args.poly.now c.requires.clears _ c.loop-term.term-index c.term-item.result
    (subst (λ (es : List (Monomial × ℤ)). c.loop-term.term-index < length es) (listed k) c.loop-term-test.true)
    (subst (λ (es : List (Monomial × ℤ)). c.term-item.result ≡ get_or es c.loop-term.term-index c.term-item.result)
    (listed k) c.term-item.is)
    c.in_err-push_integrated.ensures.past)

pub returns-clause-integral : goal.returns-clause-integral
returns-clause-integral c =
    let k = (goal.at.returns-clause-integral c).After-as_slice-term-items in
    if_ok c.of_terms.result
    (λ a h. h ∙ ap polynomial_of (entries_same c.as_slice.result.now ∙ c.as_slice.ensures.value ∙ c.loop-term.invariant
    ∙ ap (map (integrated_term c.args.integration.now.number c.args.integration.now.var c.args.integration.now.times
    (unsigned_abs c.args.denominator)))
    (all_taken c.as_slice-term-items.result.now c.loop-term.term-index c.loop-term-test.false ∙ listed k)))
    c.of_terms.ensures.sum

pub returns-clause-past : goal.returns-clause-past
returns-clause-past c =
    let k = (goal.at.returns-clause-past c).After-as_slice-term-items in
    if_err c.of_terms.result
    (λ fail h. subst (IsCause fail)
    (ap (λ es. polynomial_of (absolutes es)) (entries_same c.as_slice.result.now ∙ c.as_slice.ensures.value ∙ c.loop-term.invariant
    ∙ ap (map (integrated_term c.args.integration.now.number c.args.integration.now.var c.args.integration.now.times
    (unsigned_abs c.args.denominator)))
    (all_taken c.as_slice-term-items.result.now c.loop-term.term-index c.loop-term-test.false ∙ listed k))
    ∙ sym (absolute_integrated c.args.integration.now.number c.requires.apart c.args.integration.now.var c.args.integration.now.times
    c.args.denominator c.requires.positive c.args.poly.now c.requires.clears)) h)
    c.of_terms.ensures.past
