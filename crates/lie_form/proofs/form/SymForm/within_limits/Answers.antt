use Rattle.std.proofs.Common.{◌≡◌, ◌∙◌, ap, sym, subst, arith, ℕ, ◌≤◌, ◌<◌, length, take, List, get_or}
use Rattle.std.specs.List.{AllByRecursion as Every}
use Rattle.std.proofs.lemmas.List.{length-map}
use Rattle.lie_math.specs.Counts.{Derivative, order}
use Rattle.lie_math.specs.Polynomial.{WholePolynomial}
use Rattle.lie_systems.specs.Triples.{triples_in}
use Rattle.lie_ring.proofs.Fronts.{all_taken}
use Rattle.lie_jet.specs.Derivatives.{derivative_of}
use Rattle.lie_jet.specs.declared.derivative.Der.{Der}
use Rattle.lie_jet.proofs.ListPlaces.{get_map}
use Rattle.lie_form.specs.DerivativeTerms.{derivative_terms}
use Rattle.lie_form.proofs.FormCauses.{IsLowEntry}
use Rattle.lie_form.proofs.FormParts.{count_step, within_step, few_are, many_are, high_are}
use Rattle.lie_form.proofs.form.SymForm.within_limits.Goals as goal

pub loop-term-preserved : goal.loop-term-preserved
loop-term-preserved c = record {
  count = count_step c.as_slice-term-items.result.now c.loop-term.term-index c.term-item.result c.loop-term-test.true c.term-item.is c.loop-term.count c.len.result c.loop-term.invariant.count c.len.ensures.count;
  small = omega (arith, c.len.ensures.count, c.len.ensures.limits.terms, c.loop-term.invariant.small);
  within = within_step c.as_slice-term-items.result.now c.loop-term.term-index c.term-item.result c.loop-term-test.true c.term-item.is c.loop-term.invariant.within c.len.ensures.limits (subst (λ n. n ≤ 64) c.order_of_derivative.ensures c.if-order_of_derivative-gt-MAX_ORDER.false);
}

-- all of the coefficients were counted
whole : (ts kept : List (Der × WholePolynomial)) (k : ℕ) → length ts ≤ k → ts ≡ kept → take k (derivative_terms ts) ≡ derivative_terms kept
whole ts kept k h q = all_taken (derivative_terms ts) k (subst (λ n. n ≤ k) (sym (length-map ts (λ (t : Der × WholePolynomial). (derivative_of t.0, t.1)))) h) ∙ ap derivative_terms q

pub returns-then-order_of_derivative-gt-MAX_ORDER-clause-past : goal.returns-then-order_of_derivative-gt-MAX_ORDER-clause-past
returns-then-order_of_derivative-gt-MAX_ORDER-clause-past c =
    let ts = c.as_slice-term-items.result.now in
    let t : Der × WholePolynomial = c.term-item.result in
    let e : derivative_terms ts ≡ derivative_terms c.self.inside.terms.items = ap derivative_terms c.as_slice-term-items.ensures.value in
    let f : length (derivative_terms ts) ≡ length ts = length-map ts (λ (t : Der × WholePolynomial). (derivative_of t.0, t.1)) in
    let h : c.loop-term.term-index < length ts = c.loop-term-test.true in
    let high : 64 < order (derivative_of t.0).counts = subst (λ n. 64 < n) c.order_of_derivative.ensures c.if-order_of_derivative-gt-MAX_ORDER.true in
    high_are c.args.self.now (derivative_terms c.self.inside.terms.items) c.self.invariant c.self.view_is c.loop-term.term-index (derivative_of t.0, t.1)
    (subst (λ (es : List (Derivative × WholePolynomial)). c.loop-term.term-index < length es) e (omega arith))
    (subst (λ (es : List (Derivative × WholePolynomial)). (derivative_of t.0, t.1) ≡ get_or es c.loop-term.term-index (derivative_of t.0, t.1)) e (get_map (λ (t : Der × WholePolynomial). (derivative_of t.0, t.1)) ts c.loop-term.term-index t c.term-item.is))
    high

pub returns-then-count-gt-MAX_TRIPLES-clause-past : goal.returns-then-count-gt-MAX_TRIPLES-clause-past
returns-then-count-gt-MAX_TRIPLES-clause-past c =
    let all = whole c.as_slice-term-items.result.now c.self.inside.terms.items c.loop-term.term-index c.loop-term-test.false c.as_slice-term-items.ensures.value in
    many_are c.args.self.now (derivative_terms c.self.inside.terms.items) c.self.invariant c.self.view_is
    (let n = ap (λ es. length (triples_in es)) all in let k = c.loop-term.invariant.count in let h : 1000000 < c.loop-term.count = c.if-count-gt-MAX_TRIPLES.true in omega arith)

pub returns-clause-fits : goal.returns-clause-fits
returns-clause-fits c =
    let all = whole c.as_slice-term-items.result.now c.self.inside.terms.items c.loop-term.term-index c.loop-term-test.false c.as_slice-term-items.ensures.value in
    few_are c.args.self.now (derivative_terms c.self.inside.terms.items) c.self.invariant c.self.view_is
    (subst (Every IsLowEntry) all c.loop-term.invariant.within)
    (let n = ap (λ es. length (triples_in es)) all in let k = c.loop-term.invariant.count in let h : c.loop-term.count ≤ 1000000 = (let g = c.if-count-gt-MAX_TRIPLES.false in omega arith) in omega arith)
