use Rattle.std.proofs.Common.{◌≡◌, ◌∙◌, sym, ap, subst, map, length, unsigned_abs}
use Rattle.lie_math.specs.LinearForm.{LinearForm}
use Rattle.lie_systems.specs.Triples.{triples}
use Rattle.std.proofs.lemmas.Result.{err_from_is_err_and}
use Rattle.std.specs.List.{AllByRecursion as Every}
use Rattle.lie_math.specs.Polynomial.{0ᴾ}
use Rattle.lie_form.specs.DerivativeTerms.{derivative_terms}
use Rattle.lie_lin.specs.Systems.{unknown_of}
use Rattle.lie_steps.specs.Replacement.{put_in_bulk}
use Rattle.lie_replace.specs.Growing.{IsPartCause}
use Rattle.lie_normal.specs.Orders.{Entry}
use Rattle.lie_normal.proofs.Bounds.{same_terms, kept_form}
use Rattle.lie_replace.proofs.CarriedCauses.{part_form}
use Rattle.lie_replace.proofs.IteratedSteps.{apart_entries}
use Rattle.lie_replace.proofs.ReplacingSteps.{put_in_sum, put_in_bulk_is}
use Rattle.lie_replace.proofs.replacing.replace_and_count.Goals as goal

pub returns-in_err-bulk-clause-past : goal.returns-in_err-bulk-clause-past
returns-in_err-bulk-clause-past c =
    let p = err_from_is_err_and c.from_residual.result c.from_residual.ensures.1 in
    rw (p.1, p.2) (part_form c.in_err-bulk.field-0.0 (put_in_bulk (map unknown_of c.args.unknowns.now) c.args.number c.args.form.now (unsigned_abs c.args.divisor) c.args.eq.now) c.in_err-bulk.ensures.past)

pub put_all-requires-clause-apart : goal.put_all-requires-clause-apart
put_all-requires-clause-apart c = subst (Every (λ (e : Entry). ¬ (e.1 ≡ 0ᴾ))) (sym (same_terms c.terms-2.result.now ∙ c.terms-2.ensures.list)) (apart_entries c.args.eq.now)

pub returns-in_err-sum-clause-past : goal.returns-in_err-sum-clause-past
returns-in_err-sum-clause-past c =
    let p = err_from_is_err_and c.from_residual-in_err-sum.result c.from_residual-in_err-sum.ensures.1 in
    rw (p.1, p.2) (part_form c.in_err-sum.field-0.0 (put_in_bulk (map unknown_of c.args.unknowns.now) c.args.number c.args.form.now (unsigned_abs c.args.divisor) c.args.eq.now)
    (subst (IsPartCause c.in_err-sum.field-0.0) (put_in_bulk_is (map unknown_of c.args.unknowns.now) c.args.number (unsigned_abs c.args.divisor) c.args.form.now c.args.eq.now (derivative_terms c.terms-2.result.now) (derivative_terms c.terms.result.now) (same_terms c.terms-2.result.now ∙ c.terms-2.ensures.list) (same_terms c.terms.result.now ∙ c.terms.ensures.list)) c.in_err-sum.ensures.past))

pub returns-clause-replaced : goal.returns-clause-replaced
returns-clause-replaced c =
    kept_form c.of_terms-made.result c.in_ok-sum.sum c.into_terms-2.result.items c.of_terms-made.ensures c.into_terms-2.ensures
    ∙ put_in_sum (map unknown_of c.args.unknowns.now) c.args.number (unsigned_abs c.args.divisor) c.args.form.now c.args.eq.now c.in_ok-sum.sum (derivative_terms c.terms-2.result.now) (derivative_terms c.terms.result.now) (same_terms c.terms-2.result.now ∙ c.terms-2.ensures.list) (same_terms c.terms.result.now ∙ c.terms.ensures.list) c.in_ok-sum.ensures.sum

pub returns-clause-count : goal.returns-clause-count
returns-clause-count c =
    c.form_triple_count-count.ensures.count
    ∙ ap (λ (E : LinearForm). length (triples E)) (kept_form c.of_terms-bulk.result c.in_ok-bulk.bulk c.into_terms.result.items c.of_terms-bulk.ensures c.into_terms.ensures ∙ c.in_ok-bulk.ensures.bulk)
