use Rattle.std.proofs.Common.{◌≡◌, ◌∙◌, sym, ap, subst, List, refl, get_or, map}
use Rattle.std.proofs.lemmas.List.{at_drop_more}
use Rattle.std.proofs.lemmas.Result.{err_from_is_err_and}
use Rattle.std.specs.List.{AllByRecursion as Every, Any}
use Rattle.lie_math.specs.Polynomial.{WholePolynomial, 0ᴾ}
use Rattle.lie_math.specs.Limits.{absolute}
use Rattle.lie_jet.specs.declared.derivative.Der.{Der}
use Rattle.lie_form.specs.DerivativeTerms.{derivative_terms}
use Rattle.lie_form.proofs.FormBounds.{over_entries}
use Rattle.lie_geometry.proofs.AbsoluteForms.{entry_absolutes}
use Rattle.lie_form.specs.FormLimits.{IsFormCoefficientCause}
use Rattle.lie_lin.specs.Systems.{unknown_of}
use Rattle.lie_normal.specs.Orders.{Entry, RisesHigh}
use Rattle.lie_replace.specs.Replacing.{form_of}
use Rattle.lie_normal.specs.TermSums.{derivative_term}
use Rattle.lie_replace.proofs.CarriedCauses.{plain_sizes}
use Rattle.lie_replace.proofs.IteratedSteps.{next_derivatives, next_bounded, next_lasts, next_made, rises_told, sum_told, apart_entries}
use Rattle.lie_steps.specs.Derivatives.{derivative}
use Rattle.lie_replace.proofs.iterated.derivatives_by.Goals as goal

pub loop-var-init : goal.loop-var-init
loop-var-init c = record {
  apart = c.requires.apart;
  derivatives = refl;
  bulk = form_of (entry_absolutes (derivative_terms c.args.terms.items));
  bounded = plain_sizes (map unknown_of c.args.unknowns.now) (derivative_terms c.args.terms.items);
  lasts = c.requires.lasts;
  made = refl;
}

pub returns-then-rises_high-clause-past : goal.returns-then-rises_high-clause-past
returns-then-rises_high-clause-past c =
    let v = get_or c.args.vars.now c.loop-var.var-index 0 in
    rises_told (map unknown_of c.args.unknowns.now) c.args.vars.now c.loop-var.var-index v (at_drop_more (λ zs. zs) c.args.vars.now c.loop-var.var-index 0 c.loop-var-test.true) (derivative_terms c.loop-var.terms.items)
    c.loop-var.invariant.bulk _ c.loop-var.invariant.bounded c.loop-var.invariant.lasts c.loop-var.invariant.made c.loop-var.invariant.apart
    (subst (λ (ts : List (Der × WholePolynomial)). Any (RisesHigh (map unknown_of c.args.unknowns.now) v) (derivative_terms ts)) c.as_slice.ensures.value (c.if-rises_high.ensures.high refl))

pub returns-in_err-sum-clause-past : goal.returns-in_err-sum-clause-past
returns-in_err-sum-clause-past c =
    let v = get_or c.args.vars.now c.loop-var.var-index 0 in
    let p = err_from_is_err_and c.from_residual.result c.from_residual.ensures.1 in
    rw (p.1, p.2) (sum_told (map unknown_of c.args.unknowns.now) c.args.vars.now c.loop-var.var-index v (at_drop_more (λ zs. zs) c.args.vars.now c.loop-var.var-index 0 c.loop-var-test.true) (derivative_terms c.loop-var.terms.items)
    c.loop-var.invariant.bulk _ c.loop-var.invariant.bounded c.loop-var.invariant.lasts c.loop-var.invariant.made c.in_err-sum.field-0.0
    (subst (λ (ts : List (Der × WholePolynomial)). IsFormCoefficientCause c.in_err-sum.field-0.0 (over_entries (λ d a. derivative_term (map unknown_of c.args.unknowns.now) v d (absolute a)) (derivative_terms ts))) c.as_slice-in-loop-var.ensures.value c.in_err-sum.ensures.past))

pub loop-var-preserved : goal.loop-var-preserved
loop-var-preserved c =
    let us = map unknown_of c.args.unknowns.now in
    let v = get_or c.args.vars.now c.loop-var.var-index 0 in
    let k = c.loop-var.var-index in
    let next = at_drop_more (λ zs. zs) c.args.vars.now c.loop-var.var-index 0 c.loop-var-test.true in
    let es = derivative_terms c.loop-var.terms.items in
    let is : c.in_ok-sum.sum ≡ over_entries (derivative_term us v) es = c.in_ok-sum.ensures.sum ∙ ap (λ (ts : List (Der × WholePolynomial)). over_entries (derivative_term us v) (derivative_terms ts)) c.as_slice-in-loop-var.ensures.value in
    record {
      apart = subst (Every (λ (e : Entry). ¬ (e.1 ≡ 0ᴾ))) (sym c.into_terms-terms.ensures) (apart_entries c.in_ok-sum.sum);
      derivatives = next_derivatives us c.args.vars.now k v next es c.in_ok-sum.sum _ is (derivative_terms c.into_terms-terms.result.items) c.into_terms-terms.ensures c.loop-var.invariant.derivatives;
      bulk = derivative us v c.loop-var.invariant.bulk;
      bounded = next_bounded us c.args.vars.now k v next es c.loop-var.invariant.bulk _ c.loop-var.invariant.bounded c.loop-var.invariant.lasts c.loop-var.invariant.made c.in_ok-sum.sum is (derivative_terms c.into_terms-terms.result.items) c.into_terms-terms.ensures;
      lasts = next_lasts us c.args.vars.now k v next es c.loop-var.invariant.bulk _ c.loop-var.invariant.bounded c.loop-var.invariant.lasts c.loop-var.invariant.made;
      made = next_made us c.args.vars.now k v next es c.loop-var.invariant.bulk _ c.loop-var.invariant.bounded c.loop-var.invariant.lasts c.loop-var.invariant.made;
    }
