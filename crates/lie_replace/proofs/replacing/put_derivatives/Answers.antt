use Rattle.std.proofs.Common.{◌≡◌, ◌∙◌, sym, ap, subst, subst₂, List, ℕ, map}
use Rattle.std.proofs.lemmas.Result.{err_from_is_err_and}
use Rattle.lie_math.specs.LinearForm.{LinearForm}
use Rattle.lie_math.specs.Polynomial.{WholePolynomial}
use Rattle.lie_jet.specs.Derivatives.{derivative_of}
use Rattle.lie_jet.specs.declared.derivative.Der.{Der}
use Rattle.lie_form.specs.DerivativeTerms.{derivative_terms}
use Rattle.lie_form.proofs.FormBounds.{IsFormBound}
use Rattle.lie_geometry.proofs.AbsoluteForms.{entry_absolutes}
use Rattle.lie_lin.specs.Systems.{unknown_of}
use Rattle.lie_steps.specs.Derivatives.{derivatives}
use Rattle.lie_replace.specs.Growing.{FormLasts, IsGrownCause}
use Rattle.lie_replace.specs.Replacing.{form_of, derivatives_by}
use Rattle.lie_replace.proofs.ReplacingSteps.{lasting_derivatives, lasting_sizes, lasting_apart, lasting_lasts, derived_told, multiple_told, multiple_sum, derivatives_plain}
use Rattle.lie_replace.proofs.replacing.put_derivatives.Goals as goal

pub derivatives_by-requires-clause-apart : goal.derivatives_by-requires-clause-apart
derivatives_by-requires-clause-apart c =
    lasting_apart (map unknown_of c.args.unknowns.now) (derivative_of c.args.term.now.0).counts c.as_slice.result.now (c.as_slice.ensures.value ∙ c.in_ok-vars.ensures.variables) (derivative_terms c.args.form.now) (derivative_terms c.in_ok-lasting.lasting.items) c.in_ok-lasting.ensures.kept

pub derivatives_by-requires-clause-lasts : goal.derivatives_by-requires-clause-lasts
derivatives_by-requires-clause-lasts c =
    subst (λ vs. FormLasts (map unknown_of c.args.unknowns.now) vs (form_of (entry_absolutes (derivative_terms c.in_ok-lasting.lasting.items)))) (c.as_slice.ensures.value ∙ sym c.as_slice-2.ensures.value)
    (lasting_lasts (map unknown_of c.args.unknowns.now) (derivative_of c.args.term.now.0).counts c.as_slice.result.now (c.as_slice.ensures.value ∙ c.in_ok-vars.ensures.variables) (derivative_terms c.args.form.now) (derivative_terms c.in_ok-lasting.lasting.items) c.in_ok-lasting.ensures.kept c.in_ok-lasting.ensures.within)

same_slices : (xs ys zs : List ℕ) → xs ≡ zs → ys ≡ zs → ys ≡ xs
same_slices xs ys zs e h = h ∙ sym e

pub returns-in_err-derived-clause-past : goal.returns-in_err-derived-clause-past
returns-in_err-derived-clause-past c =
    let p = err_from_is_err_and c.from_residual-in_err-derived.result c.from_residual-in_err-derived.ensures.1 in
    rw (p.1, p.2) (derived_told (map unknown_of c.args.unknowns.now) c.args.sum.now c.args.term.now.1 (derivatives (map unknown_of c.args.unknowns.now) (derivative_of c.args.term.now.0).counts (form_of (entry_absolutes (derivative_terms c.args.form.now)))) c.in_err-derived.field-0.0 c.requires (derivatives_plain (map unknown_of c.args.unknowns.now) (derivative_of c.args.term.now.0).counts (derivative_terms c.args.form.now))
    (subst (IsGrownCause c.in_err-derived.field-0.0) (ap (λ vs. derivatives_by (map unknown_of c.args.unknowns.now) vs (form_of (entry_absolutes (derivative_terms c.in_ok-lasting.lasting.items)))) (same_slices c.as_slice.result.now c.as_slice-2.result.now _ c.as_slice.ensures.value c.as_slice-2.ensures.value)
    ∙ lasting_sizes (map unknown_of c.args.unknowns.now) (derivative_of c.args.term.now.0).counts c.as_slice.result.now (c.as_slice.ensures.value ∙ c.in_ok-vars.ensures.variables) (derivative_terms c.args.form.now) (derivative_terms c.in_ok-lasting.lasting.items) c.in_ok-lasting.ensures.kept) c.in_err-derived.ensures.past))

pub returns-in_err-put_multiple-clause-past : goal.returns-in_err-put_multiple-clause-past
returns-in_err-put_multiple-clause-past c =
    let p = err_from_is_err_and c.from_residual-in_err-put_multiple.result c.from_residual-in_err-put_multiple.ensures.1 in
    rw (p.1, p.2) (multiple_told (map unknown_of c.args.unknowns.now) c.args.sum.now c.args.term.now.1 (derivatives (map unknown_of c.args.unknowns.now) (derivative_of c.args.term.now.0).counts (form_of (entry_absolutes (derivative_terms c.args.form.now)))) c.in_err-put_multiple.field-0.0 (derivative_terms c.as_slice-3.result.now)
    (subst₂ (λ (ts : List (Der × WholePolynomial)) (G : LinearForm). IsFormBound (form_of (entry_absolutes (derivative_terms ts))) G) (sym c.as_slice-3.ensures.value) (ap (λ vs. derivatives_by (map unknown_of c.args.unknowns.now) vs (form_of (entry_absolutes (derivative_terms c.in_ok-lasting.lasting.items)))) (same_slices c.as_slice.result.now c.as_slice-2.result.now _ c.as_slice.ensures.value c.as_slice-2.ensures.value)
    ∙ lasting_sizes (map unknown_of c.args.unknowns.now) (derivative_of c.args.term.now.0).counts c.as_slice.result.now (c.as_slice.ensures.value ∙ c.in_ok-vars.ensures.variables) (derivative_terms c.args.form.now) (derivative_terms c.in_ok-lasting.lasting.items) c.in_ok-lasting.ensures.kept) c.in_ok-derived.ensures.bounded) c.in_err-put_multiple.ensures.past)

pub returns-clause-sum : goal.returns-clause-sum
returns-clause-sum c =
    multiple_sum (map unknown_of c.args.unknowns.now) c.args.sum.now c.put_multiple.new.sum c.args.term.now.1 (derivative_terms c.as_slice-3.result.now) (derivatives (map unknown_of c.args.unknowns.now) (derivative_of c.args.term.now.0).counts (form_of (derivative_terms c.args.form.now))) c.in_ok-put_multiple.ensures.sum
    (ap (λ (ts : List (Der × WholePolynomial)). form_of (derivative_terms ts)) c.as_slice-3.ensures.value ∙ c.in_ok-derived.ensures.derivatives
    ∙ ap (λ vs. derivatives_by (map unknown_of c.args.unknowns.now) vs (form_of (derivative_terms c.in_ok-lasting.lasting.items))) (same_slices c.as_slice.result.now c.as_slice-2.result.now _ c.as_slice.ensures.value c.as_slice-2.ensures.value)
    ∙ lasting_derivatives (map unknown_of c.args.unknowns.now) (derivative_of c.args.term.now.0).counts c.as_slice.result.now (c.as_slice.ensures.value ∙ c.in_ok-vars.ensures.variables) (derivative_terms c.args.form.now) (derivative_terms c.in_ok-lasting.lasting.items) c.in_ok-lasting.ensures.kept)
