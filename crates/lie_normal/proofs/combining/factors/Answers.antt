use Rattle.std.proofs.Common.{◌∙◌, sym, ap}
use Rattle.std.specs.Prelude.{pos, unsigned_abs}
use Rattle.lie_math.specs.Counts.{derivative_cmp}
use Rattle.lie_math.specs.LinearForm.{forms}
use Rattle.lie_math.specs.SortedSum.{value_at}
use Rattle.lie_math.proofs.Integer.{unsigned_abs_zero}
use Rattle.lie_systems.specs.Normalised.{content, common_monomial}
use Rattle.lie_jet.specs.Derivatives.{derivative_of}
use Rattle.lie_lin.specs.Forms.{triples_of}
use Rattle.lie_normal.proofs.CombinedFactors.{none_factor, none_other_factor, factor_divided, other_factor_divided, factor_made, other_factor_made, negative_apart}
use Rattle.lie_normal.proofs.combining.factors.Goals as goal

pub returns-then-size-eq0-clause-factor : goal.returns-then-size-eq0-clause-factor
returns-then-size-eq0-clause-factor c = c.zero.ensures ∙ none_factor (derivative_of c.args.der.now) c.args.eq.now c.args.other.now c.in_ok-coefficient_of.field-0 c.in_ok-coefficient_of-2.field-0
    (c.in_ok-coefficient_of.ensures ∙ ap (value_at derivative_cmp forms.values (derivative_of c.args.der.now)) c.terms.ensures.list)
    (c.in_ok-coefficient_of-2.ensures ∙ ap (value_at derivative_cmp forms.values (derivative_of c.args.der.now)) c.terms-2.ensures.list)
    (triples_of c.in_ok-list.list.items) c.in_ok-list.ensures c.content_of-number.result (c.content_of-number.ensures ∙ ap (λ l. pos (content (triples_of l))) c.as_slice.ensures.value) (unsigned_abs_zero c.content_of-number.result (sym c.size.ensures.size ∙ c.if-size-eq0.true))

pub returns-then-size-eq0-clause-other_factor : goal.returns-then-size-eq0-clause-other_factor
returns-then-size-eq0-clause-other_factor c = c.zero-then-size-eq0.ensures ∙ none_other_factor (derivative_of c.args.der.now) c.args.eq.now c.args.other.now c.in_ok-coefficient_of.field-0 c.in_ok-coefficient_of-2.field-0
    (c.in_ok-coefficient_of.ensures ∙ ap (value_at derivative_cmp forms.values (derivative_of c.args.der.now)) c.terms.ensures.list)
    (c.in_ok-coefficient_of-2.ensures ∙ ap (value_at derivative_cmp forms.values (derivative_of c.args.der.now)) c.terms-2.ensures.list)
    (triples_of c.in_ok-list.list.items) c.in_ok-list.ensures c.content_of-number.result (c.content_of-number.ensures ∙ ap (λ l. pos (content (triples_of l))) c.as_slice.ensures.value) (unsigned_abs_zero c.content_of-number.result (sym c.size.ensures.size ∙ c.if-size-eq0.true))

pub divided_coefficient-requires-clause-divides : goal.divided_coefficient-requires-clause-divides
divided_coefficient-requires-clause-divides c = factor_divided (derivative_of c.args.der.now) c.args.eq.now c.args.other.now c.in_ok-coefficient_of.field-0 c.in_ok-coefficient_of-2.field-0
    (c.in_ok-coefficient_of.ensures ∙ ap (value_at derivative_cmp forms.values (derivative_of c.args.der.now)) c.terms.ensures.list)
    (c.in_ok-coefficient_of-2.ensures ∙ ap (value_at derivative_cmp forms.values (derivative_of c.args.der.now)) c.terms-2.ensures.list)
    (triples_of c.in_ok-list.list.items) c.in_ok-list.ensures c.content_of-number.result (c.content_of-number.ensures ∙ ap (λ l. pos (content (triples_of l))) c.as_slice.ensures.value)
    c.in_ok-mono.mono (c.in_ok-mono.ensures ∙ ap (λ l. common_monomial (triples_of l)) c.as_slice-2.ensures.value)

pub divided_coefficient-requires-2-clause-divides : goal.divided_coefficient-requires-2-clause-divides
divided_coefficient-requires-2-clause-divides c = other_factor_divided (derivative_of c.args.der.now) c.args.eq.now c.args.other.now c.in_ok-coefficient_of.field-0 c.in_ok-coefficient_of-2.field-0
    (c.in_ok-coefficient_of.ensures ∙ ap (value_at derivative_cmp forms.values (derivative_of c.args.der.now)) c.terms.ensures.list)
    (c.in_ok-coefficient_of-2.ensures ∙ ap (value_at derivative_cmp forms.values (derivative_of c.args.der.now)) c.terms-2.ensures.list)
    (triples_of c.in_ok-list.list.items) c.in_ok-list.ensures c.content_of-number.result (c.content_of-number.ensures ∙ ap (λ l. pos (content (triples_of l))) c.as_slice.ensures.value)
    c.in_ok-mono.mono (c.in_ok-mono.ensures ∙ ap (λ l. common_monomial (triples_of l)) c.as_slice-2.ensures.value) c.neg.result c.neg.ensures

pub returns-clause-factor : goal.returns-clause-factor
returns-clause-factor c = factor_made (derivative_of c.args.der.now) c.args.eq.now c.args.other.now c.in_ok-coefficient_of.field-0 c.in_ok-coefficient_of-2.field-0
    (c.in_ok-coefficient_of.ensures ∙ ap (value_at derivative_cmp forms.values (derivative_of c.args.der.now)) c.terms.ensures.list)
    (c.in_ok-coefficient_of-2.ensures ∙ ap (value_at derivative_cmp forms.values (derivative_of c.args.der.now)) c.terms-2.ensures.list)
    (triples_of c.in_ok-list.list.items) c.in_ok-list.ensures c.content_of-number.result (c.content_of-number.ensures ∙ ap (λ l. pos (content (triples_of l))) c.as_slice.ensures.value)
    c.in_ok-mono.mono (c.in_ok-mono.ensures ∙ ap (λ l. common_monomial (triples_of l)) c.as_slice-2.ensures.value) (λ z. c.if-size-eq0.false (c.size.ensures.size ∙ ap unsigned_abs z)) c.in_ok-factor.factor c.in_ok-factor.ensures

pub returns-clause-other_factor : goal.returns-clause-other_factor
returns-clause-other_factor c = other_factor_made (derivative_of c.args.der.now) c.args.eq.now c.args.other.now c.in_ok-coefficient_of.field-0 c.in_ok-coefficient_of-2.field-0
    (c.in_ok-coefficient_of.ensures ∙ ap (value_at derivative_cmp forms.values (derivative_of c.args.der.now)) c.terms.ensures.list)
    (c.in_ok-coefficient_of-2.ensures ∙ ap (value_at derivative_cmp forms.values (derivative_of c.args.der.now)) c.terms-2.ensures.list)
    (triples_of c.in_ok-list.list.items) c.in_ok-list.ensures c.content_of-number.result (c.content_of-number.ensures ∙ ap (λ l. pos (content (triples_of l))) c.as_slice.ensures.value)
    c.in_ok-mono.mono (c.in_ok-mono.ensures ∙ ap (λ l. common_monomial (triples_of l)) c.as_slice-2.ensures.value) (λ z. c.if-size-eq0.false (c.size.ensures.size ∙ ap unsigned_abs z)) c.neg.result c.neg.ensures c.in_ok-other_factor.other_factor c.in_ok-other_factor.ensures

pub divided_coefficient-requires-clause-apart : goal.divided_coefficient-requires-clause-apart
divided_coefficient-requires-clause-apart c = λ z. c.if-size-eq0.false (c.size.ensures.size ∙ ap unsigned_abs z)

pub divided_coefficient-requires-2-clause-apart : goal.divided_coefficient-requires-2-clause-apart
divided_coefficient-requires-2-clause-apart c = negative_apart c.content_of-number.result c.neg.result c.neg.ensures (λ z. c.if-size-eq0.false (c.size.ensures.size ∙ ap unsigned_abs z))
