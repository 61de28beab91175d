use Rattle.std.specs.Prelude.{ℕ, []}
use Rattle.std.proofs.Common.{sym, ap, ◌∙◌, arith, is_eq}
use Rattle.lie_math.specs.Counts.{Derivative, derivative_cmp}
use Rattle.lie_math.specs.FiniteSum as finite
use Rattle.lie_math.specs.LinearForm.{forms}
use Rattle.lie_math.specs.SortedSum.{value_at}
use Rattle.lie_math.specs.Polynomial.{WholePolynomial}
use Rattle.lie_jet.specs.Derivatives.{derivative_of}
use Rattle.lie_jet.proofs.TotalParts.{entries_same}
use Rattle.lie_algebra.proofs.UnknownRows.{value_passed, value_found, value_past, nothing_listed}
use Rattle.lie_algebra.proofs.rows.terms_of.Goals as goal

pub loop-term-init : goal.loop-term-init
loop-term-init c = ap (value_at derivative_cmp forms.values (record { unknown = c.args.unknown; counts = [] })) c.terms-term-items.ensures.list

abbrev the_unknown : ℕ → Derivative
the_unknown u = record { unknown = u; counts = [] }

pub loop-term-preserved : goal.loop-term-preserved
loop-term-preserved c =
    value_passed (the_unknown c.args.unknown) c.terms-term-items.result.now c.loop-term.term-index c.term-item.result (finite.value forms c.args.form.now (the_unknown c.args.unknown))
    (omega arith) c.term-item.is
    (sym (ap is_eq (c.compare_derivatives.ensures ∙ ap (λ e. derivative_cmp e (derivative_of c.term-item.result.0)) c.plain-der.ensures)) ∙ sym c.is_eq.ensures ∙ c.if-is_eq.false)
    c.loop-term.invariant

pub returns-then-is_eq : goal.returns-then-is_eq
returns-then-is_eq c =
    sym (entries_same c.in_ok-list.list.items) ∙ c.in_ok-list.ensures
    ∙ ap (λ (p : WholePolynomial). p.list) (value_found (the_unknown c.args.unknown) c.terms-term-items.result.now c.loop-term.term-index c.term-item.result
    (finite.value forms c.args.form.now (the_unknown c.args.unknown)) c.terms-term-items.ensures.coefficients (omega arith) c.term-item.is
    (sym (ap is_eq (c.compare_derivatives.ensures ∙ ap (λ e. derivative_cmp e (derivative_of c.term-item.result.0)) c.plain-der.ensures)) ∙ sym c.is_eq.ensures ∙ c.if-is_eq.true)
    c.loop-term.invariant)

pub returns : goal.returns
returns c =
    c.new.ensures.items ∙ sym nothing_listed
    ∙ ap (λ (p : WholePolynomial). p.list) (value_past (the_unknown c.args.unknown) c.terms-term-items.result.now c.loop-term.term-index
    (finite.value forms c.args.form.now (the_unknown c.args.unknown)) (omega arith) c.loop-term.invariant)
