use Rattle.std.proofs.Common.{◌≡◌, ◌∙◌, sym, ap, subst, map, List, ℕ, refl, unsigned_abs}
use Rattle.lie_math.specs.LinearSystem.{Unknown}
use Rattle.lie_steps.specs.Replacement.{put_in_bulk}
use Rattle.lie_replace.specs.Replacing.{form_of, put_in_term}
use Rattle.std.specs.Prelude.{IfOk, IfErr}
use Rattle.std.specs.List.{AllByRecursion as Every}
use Rattle.lie_math.specs.LinearForm.{LinearForm}
use Rattle.lie_math.specs.Polynomial.{WholePolynomial, 0ᴾ}
use Rattle.lie_jet.specs.declared.derivative.Der.{Der}
use Rattle.lie_form.specs.DerivativeTerms.{derivative_terms}
use Rattle.lie_form.proofs.FormBounds.{over_entries}
use Rattle.lie_geometry.proofs.AbsoluteForms.{entry_absolutes}
use Rattle.lie_form.proofs.FormParts.{kept_absolutes}
use Rattle.lie_lin.specs.Forms.{coefficients_of}
use Rattle.lie_lin.specs.Systems.{unknown_of}
use Rattle.lie_replace.specs.Growing.{IsPartCause}
use Rattle.lie_normal.specs.Orders.{Entry}
use Rattle.lie_normal.proofs.Bounds.{same_terms, terms_of_sizes}
use Rattle.lie_replace.proofs.IteratedSteps.{apart_entries}
use Rattle.lie_replace.proofs.ReplacingSteps.{bulk_sum, bulk_again, sizes_apart}
use Rattle.lie_replace.proofs.replacing.bulk_of_replaced.Goals as goal

-- the terms with absolute values of a form
listed_sizes : (F : LinearForm) (ts us vs : List (Der × WholePolynomial)) → us ≡ vs → vs ≡ kept_absolutes ts → coefficients_of ts ≡ F.list → derivative_terms us ≡ entry_absolutes F.list
listed_sizes F ts us vs e h all = ap derivative_terms (e ∙ h) ∙ terms_of_sizes ts ∙ ap entry_absolutes (same_terms ts ∙ all)

sum_is : (us : List Unknown) (f L : ℕ) (W E : LinearForm) (es ws : List Entry) → es ≡ entry_absolutes E.list → ws ≡ entry_absolutes W.list → over_entries (put_in_term us f (form_of ws) L) es ≡ put_in_bulk us f W L E
sum_is us f L W E es ws e w = bulk_sum us f L W E (over_entries (put_in_term us f (form_of ws) L) es) es ws e w refl

pub put_all-requires-clause-apart : goal.put_all-requires-clause-apart
put_all-requires-clause-apart c =
    subst (Every (λ (e : Entry). ¬ (e.1 ≡ 0ᴾ))) (sym (listed_sizes c.args.eq.now c.terms-2.result.now c.as_slice-2.result.now c.in_ok-sizes.sizes.items c.as_slice-2.ensures.value c.in_ok-sizes.ensures.sizes c.terms-2.ensures.list))
    (sizes_apart (c.args.eq.now).list (apart_entries c.args.eq.now))

pub returns-clause-bulk : goal.returns-clause-bulk
returns-clause-bulk c =
    subst (λ G. IfOk c.put_all.result (λ bulk. bulk ≡ G))
    (sum_is (map unknown_of c.args.unknowns.now) c.args.number (unsigned_abs c.args.divisor) c.args.form.now c.args.eq.now (derivative_terms c.as_slice-2.result.now) (derivative_terms c.as_slice.result.now)
    (listed_sizes c.args.eq.now c.terms-2.result.now c.as_slice-2.result.now c.in_ok-sizes.sizes.items c.as_slice-2.ensures.value c.in_ok-sizes.ensures.sizes c.terms-2.ensures.list)
    (listed_sizes c.args.form.now c.terms.result.now c.as_slice.result.now c.in_ok-form_sizes.form_sizes.items c.as_slice.ensures.value c.in_ok-form_sizes.ensures.sizes c.terms.ensures.list)) c.put_all.ensures.sum

pub returns-clause-past : goal.returns-clause-past
returns-clause-past c =
    subst (λ G. IfErr c.put_all.result (λ fail. IsPartCause fail G))
    (bulk_again (map unknown_of c.args.unknowns.now) c.args.number (unsigned_abs c.args.divisor) c.args.form.now c.args.eq.now (derivative_terms c.as_slice-2.result.now) (derivative_terms c.as_slice.result.now)
    (listed_sizes c.args.eq.now c.terms-2.result.now c.as_slice-2.result.now c.in_ok-sizes.sizes.items c.as_slice-2.ensures.value c.in_ok-sizes.ensures.sizes c.terms-2.ensures.list)
    (listed_sizes c.args.form.now c.terms.result.now c.as_slice.result.now c.in_ok-form_sizes.form_sizes.items c.as_slice.ensures.value c.in_ok-form_sizes.ensures.sizes c.terms.ensures.list)) c.put_all.ensures.past
