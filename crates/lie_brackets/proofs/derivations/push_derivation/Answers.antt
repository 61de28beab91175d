use Rattle.std.proofs.Common.{ap, subst, sym, ◌∙◌, length}
use Rattle.std.proofs.lemmas.Result.{err_from_is_err_and}
use Rattle.lie_math.specs.Derivation.{derivation}
use Rattle.lie_math.specs.Polynomial.{◌+ᴾ◌, constant, ◌*ᴾ◌}
use Rattle.lie_math.specs.VectorField.{component}
use Rattle.lie_ring.specs.Causes.{IsCause}
use Rattle.lie_ring.proofs.Fronts.{all_taken}
use Rattle.lie_poly.proofs.SumSteps.{cause_covered}
use Rattle.lie_jet.specs.Listed.{sum_listed, bulk_listed}
use Rattle.lie_brackets.specs.FieldTerms.{field_of_terms}
use Rattle.lie_brackets.proofs.AdditiveMaps.{additive_none, additive_no_bulk}
use Rattle.lie_brackets.proofs.DerivedTerms.{nothing_behind, derivation_is_additive, signed_is_additive, signed_not_zero, terms_more, terms_more_bulk, term_covered}
use Rattle.lie_brackets.proofs.FieldParts.{absolute_listed, term_of_listed, sizes, sizes_plain}
use Rattle.lie_brackets.proofs.derivations.push_derivation.Goals as goal

pub loop-term-init : goal.loop-term-init
loop-term-init c = record {
  sum = nothing_behind _ ∙ sym (ap (λ p. sum_listed c.args.made.now.items +ᴾ p) (additive_none (signed_is_additive (component (field_of_terms c.args.values.now)) c.args.sign)));
  bulk = nothing_behind _ ∙ sym (ap (λ p. bulk_listed c.args.made.now.items +ᴾ p) (additive_no_bulk (derivation_is_additive (sizes c.args.values.now))));
}

pub push_derived-requires-clause-low : goal.push_derived-requires-clause-low
push_derived-requires-clause-low c =
    (term_of_listed (length c.args.values.now) c.args.terms.now c.loop-term.term-index c.term-item.result c.requires.terms c.requires.low c.loop-term-test.true c.term-item.is).0

pub push_derived-requires-clause-not_zero : goal.push_derived-requires-clause-not_zero
push_derived-requires-clause-not_zero c =
    signed_not_zero c.term-item.result.1 c.args.sign _ c.signed-number.ensures c.requires.unit
    (term_of_listed (length c.args.values.now) c.args.terms.now c.loop-term.term-index c.term-item.result c.requires.terms c.requires.low c.loop-term-test.true c.term-item.is).1

pub returns-in_err-push_derived-clause-past : goal.returns-in_err-push_derived-clause-past
returns-in_err-push_derived-clause-past c =
    let p = err_from_is_err_and c.from_residual.result c.from_residual.ensures.1 in
    rw (p.1, p.2) (subst (λ q. IsCause c.in_err-push_derived.field-0.0 (derivation (sizes c.args.values.now) q)) (sym (absolute_listed c.args.terms.now c.requires.terms))
    (cause_covered _ _ _ (term_covered (sizes c.args.values.now) c.args.terms.now c.loop-term.term-index c.term-item.result c.loop-term-test.true c.term-item.is c.args.sign c.signed-number.result c.requires.unit c.signed-number.ensures (sizes_plain c.args.values.now)) c.in_err-push_derived.ensures.past))

pub loop-term-preserved : goal.loop-term-preserved
loop-term-preserved c =
    let ts = c.args.terms.now in
    record {
      sum = terms_more (component (field_of_terms c.args.values.now)) ts c.loop-term.term-index c.term-item.result c.loop-term-test.true c.term-item.is c.args.sign c.signed-number.result c.requires.unit c.signed-number.ensures _ _ _ c.in_ok-push_derived.ensures.sum c.loop-term.invariant.sum;
      bulk = terms_more_bulk (sizes c.args.values.now) ts c.loop-term.term-index c.term-item.result c.loop-term-test.true c.term-item.is c.args.sign c.signed-number.result c.requires.unit c.signed-number.ensures _ _ _ c.in_ok-push_derived.ensures.bulk c.loop-term.invariant.bulk;
    }

pub returns-clause-sum : goal.returns-clause-sum
returns-clause-sum c =
    c.loop-term.invariant.sum
    ∙ ap (λ ts. sum_listed c.args.made.now.items +ᴾ constant c.args.sign *ᴾ derivation (component (field_of_terms c.args.values.now)) (sum_listed ts)) (all_taken c.args.terms.now c.loop-term.term-index c.loop-term-test.false)

pub returns-clause-bulk : goal.returns-clause-bulk
returns-clause-bulk c =
    c.loop-term.invariant.bulk
    ∙ ap (λ q. bulk_listed c.args.made.now.items +ᴾ derivation (sizes c.args.values.now) q) (ap bulk_listed (all_taken c.args.terms.now c.loop-term.term-index c.loop-term-test.false) ∙ sym (absolute_listed c.args.terms.now c.requires.terms))
